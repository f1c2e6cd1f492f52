-- What the code's meaning of files stands for, and what is known of it.
use Rattle.std.specs.Prelude.{ℕ, ◌≤◌, Ok, Option, Some, None, List, [], ◌∷◌, length, All, slice_get}
use Rattle.swift_tree.specs.Outlines.{OutlineSeen, outline_of}
use Rattle.macro_decls.specs.Macros.{IsDeclReadable}
use Rattle.decl_parser.specs.Outline.{IsOutline}
use Rattle.expansion_model.specs.Requests.{IsPlaceIn}
use Rattle.expand_top.specs.Lines.{output_seen}
use Rattle.expand_top.specs.Meaning.{Meaning, Refused, Means, NamedText}
use Rattle.expand_top.specs.declared.meaning.At.{At}
use Rattle.expand_top.specs.declared.meaning.Declared.{Declared}
use Rattle.expand_top.specs.declared.meaning.Declared.TheVariants as declared
use Rattle.expand_top.specs.declared.meaning.Meaning as code
use Rattle.expand_top.specs.declared.meaning.Meaning.TheVariants as means

abbrev pub meaning_seen : code.Meaning → Meaning
meaning_seen (means.Refused output) = Refused (output_seen output)
meaning_seen (means.Means source macros) = Means (outline_of source) macros

abbrev pub declared_seen : OutlineSeen → Declared → Meaning
declared_seen source (declared.Table macros) = Means source macros
declared_seen source (declared.Refused output) = Refused (output_seen output)

abbrev pub option_list : {A : Type 0} → Option A → List A
option_list None = []
option_list (Some x) = x ∷ []

abbrev pub text_of : Option NamedText → List ℕ
text_of None = []
text_of (Some named) = named.text

-- the place is one of the text of its number
abbrev pub IsAt : List NamedText → At → Type 0
IsAt files at = IsPlaceIn (text_of (slice_get files at.outline)) at.place

abbrev pub IsShortText : NamedText → Type 0
IsShortText named = length named.text ≤ 4194304

abbrev pub AreShort : List NamedText → Type 0
AreShort files = All IsShortText files

-- an accepted source, of a text that is not too long
abbrev pub IsSoundSource : OutlineSeen → Type 0
IsSoundSource source = IsOutline source.text source.shape (Ok source) × (length source.text ≤ 4194304)

-- a source is an accepted one, and its macros can be asked for
abbrev pub IsSound : code.Meaning → Type 0
IsSound (means.Refused output) = Unit {0}
IsSound (means.Means source macros) = IsSoundSource (outline_of source) × All IsDeclReadable macros

abbrev pub AreReadable : Declared → Type 0
AreReadable (declared.Table macros) = All IsDeclReadable macros
AreReadable (declared.Refused output) = Unit {0}
