-- Buffers: a source, or the text of a reply, with what its requests have to know of where it comes from. This project's own.
use Rattle.std.specs.Prelude.{ℕ, ◌&&◌, Bool, true, List, [], ◌∷◌, ◌++◌, codes, Ok}
use Rattle.std.specs.List.{list_any}
use Rattle.std.specs.Str.{bytes_eq}
use Rattle.swift_tree.specs.Outlines.{OutlineSeen, outline_of}
use Rattle.unique_names.specs.declared.step.KeyStep.{KeyStep}
use Rattle.unique_names.specs.Names.{discriminator_of}
use Rattle.decl_parser.specs.Outline.{IsOutline}
use Rattle.expansion_model.specs.Macros.{role_eq}
use Rattle.expansion_model.specs.declared.buffer.Ancestor.{Ancestor}
use Rattle.expansion_model.specs.declared.buffer.Buffer as code
use Rattle.expansion_model.specs.declared.site.Ask.{Ask}

-- An outline; the name of the buffer in messages; its key, that of the request whose reply it is; the macros and roles
-- of that request and of those in whose replies it stands, outermost first; and whether the reply stands at file scope.
pub record BufferSeen : Type 0 where
  pub outline : OutlineSeen
  pub name : List ℕ
  pub key : List KeyStep
  pub ancestors : List Ancestor
  pub file_scope : Bool

abbrev pub text_of : BufferSeen → List ℕ
text_of buffer = buffer.outline.text

-- a source has no key and no ancestors
abbrev pub source_buffer : List ℕ → OutlineSeen → BufferSeen
source_buffer name outline = record { outline = outline; name = name; key = []; ancestors = []; file_scope = true }

-- the step of a use, in the buffer in which it stands
abbrev pub step_of : Ask → KeyStep
step_of ask = record { offset = ask.macro_use.span.start; role = ask.stands_for.role; member = 0 }

-- the key of a use's request: that of its buffer, and one step more
abbrev pub key_of : List KeyStep → Ask → List KeyStep
key_of key ask = key ++ step_of ask ∷ []

-- the macro and the role of a use
abbrev pub pair_of : Ask → Ancestor
pair_of ask = record { macro_name = ask.target.name; role = ask.stands_for.role }

abbrev pub same_pair : Ancestor → Ancestor → Bool
same_pair one other = bytes_eq one.macro_name other.macro_name && role_eq one.role other.role

abbrev pub is_among : Ancestor → List Ancestor → Bool
is_among pair ancestors = list_any (same_pair pair) ancestors

-- the name of the buffer of a request's reply
abbrev pub reply_name : List KeyStep → List ℕ
reply_name key = discriminator_of key ++ codes ".swift"

-- the buffer of the reply to a use, as this outline
abbrev pub reply_buffer : BufferSeen → Ask → OutlineSeen → BufferSeen
reply_buffer buffer ask outline = record {
  outline = outline;
  name = reply_name (key_of buffer.key ask);
  key = key_of buffer.key ask;
  ancestors = buffer.ancestors ++ pair_of ask ∷ [];
  file_scope = ask.stands_for.file_scope;
}

-- what contracts see of a buffer
abbrev pub buffer_seen : code.Buffer → BufferSeen
buffer_seen buffer = record {
  outline = outline_of buffer.outline;
  name = buffer.name;
  key = buffer.key;
  ancestors = buffer.ancestors;
  file_scope = buffer.file_scope;
}

-- the outline is that of its text
abbrev pub IsSound : BufferSeen → Type 0
IsSound buffer = IsOutline buffer.outline.text buffer.outline.shape (Ok buffer.outline)
