-- What is asked at a site. After SE-0382 and SE-0397; the syntaxes are swift-syntax's.
use Rattle.std.specs.Prelude.{◌≡◌, ℕ, ◌==◌, if◌then◌else◌, List, [], ◌∷◌, ◌++◌, take, codes, Some}
use Rattle.std.specs.List.{list_any}
use Rattle.std.specs.Str.Lossy.{utf8_lossy}
use Rattle.swift_base.specs.Lines.{line_behind, column_behind}
use Rattle.unique_names.specs.declared.role.Role.{Role}
use Rattle.unique_names.specs.declared.role.Role.TheVariants as role
use Rattle.plugin_messages.specs.declared.request.Location.{Location}
use Rattle.plugin_messages.specs.declared.request.Parts.TheVariants.{Freestanding}
use Rattle.plugin_messages.specs.declared.request.Request.{Request}
use Rattle.plugin_messages.specs.declared.request.Syntax.{Syntax}
use Rattle.plugin_messages.specs.declared.request.SyntaxKind.{SyntaxKind}
use Rattle.plugin_messages.specs.declared.request.SyntaxKind.TheVariants as kind
use Rattle.expansion_model.specs.Buffers.{BufferSeen, key_of}
use Rattle.expansion_model.specs.Macros.{text_at}
use Rattle.expansion_model.specs.declared.place.Place.{Place}
use Rattle.expansion_model.specs.declared.site.Ask.{Ask}

-- the place of what stands behind so many bytes
unfoldable pub place_of : List ℕ → ℕ → Place
place_of text at = record { at = at; line = line_behind (take at text); column = column_behind (take at text) }

abbrev pub IsPlaceIn : List ℕ → Place → Type 0
IsPlaceIn text place = place ≡ place_of text place.at

-- what stands after the last slash
abbrev pub last_part : List ℕ → List ℕ
last_part [] = []
last_part (byte ∷ bytes) = if list_any (λ b. b == 47) (byte ∷ bytes) then last_part bytes else byte ∷ bytes

abbrev pub file_id : List ℕ → List ℕ
file_id name = codes "main/" ++ last_part name

-- a place of a buffer; in its name and id replacement characters stand for what is no UTF-8
unfoldable pub location_of : List ℕ → Place → Location
location_of name place = record {
  file_id = utf8_lossy (file_id name);
  file_name = utf8_lossy name;
  offset = place.at;
  line = place.line;
  column = place.column;
}

-- the sort of syntax that a use is, by its role
abbrev pub kind_for : Role → SyntaxKind
kind_for role.Declaration = kind.Declaration
kind_for _ = kind.Expression

unfoldable pub syntax_of : BufferSeen → Ask → Syntax
syntax_of buffer ask = record {
  kind = kind_for ask.stands_for.role;
  source = text_at buffer.outline.text ask.macro_use.span;
  location = Some (location_of buffer.name (place_of buffer.outline.text ask.macro_use.span.start));
}

-- the request for a use in a buffer
unfoldable pub request_of : BufferSeen → Ask → Request
request_of buffer ask = record {
  key = key_of buffer.key ask;
  target = ask.target;
  role = ask.stands_for.role;
  parts = Freestanding (syntax_of buffer ask);
}
