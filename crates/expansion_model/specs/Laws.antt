-- Laws of the visit of a source. This project's own.
use Rattle.std.specs.Prelude.{◌≡◌, ℕ, false, List, [], All, length, map, Ok}
use Rattle.std.specs.List.{Contains}
use Rattle.swift_base.specs.declared.place.Span.{Span}
use Rattle.swift_base.specs.declared.plugins.Plugin.{Plugin}
use Rattle.swift_lexer.specs.declared.token.Token.{Token}
use Rattle.swift_tree.specs.Outlines.{OutlineSeen}
use Rattle.swift_tree.specs.declared.outline.Shape.TheVariants.{File}
use Rattle.decl_parser.specs.Outline.{IsOutline, name_bytes, read_tokens}
use Rattle.unique_names.specs.Names.{discriminator_of}
use Rattle.unique_names.specs.Unique.{IsUnique}
use Rattle.unique_names.specs.declared.step.KeyStep.{KeyStep}
use Rattle.plugin_messages.specs.declared.request.Request.{Request}
use Rattle.plugin_messages.specs.Writable.{IsRequestWritable}
use Rattle.macro_decls.specs.declared.table.MacroDecl.{MacroDecl}
use Rattle.macro_decls.specs.Macros.{IsDeclReadable}
use Rattle.result_splice.specs.Edits.{CanBeMade}
use Rattle.result_splice.specs.declared.edit.Edit.{Edit}
use Rattle.expansion_model.specs.Answer.{answer_of, lacks_outcome}
use Rattle.expansion_model.specs.Buffers.{BufferSeen, IsSound}
use Rattle.expansion_model.specs.BufferSites.{buffer_sites}
use Rattle.expansion_model.specs.Reached.{IsAsked}
use Rattle.expansion_model.specs.Spans.{spans_of}
use Rattle.expansion_model.specs.Table.{Look, IsWithin}
use Rattle.expansion_model.specs.Visit.{over, given, visit}

-- a visit is what its sites give, each reply being visited in the same way
abbrev pub VisitsRepeat : Type 0
VisitsRepeat = (macros : List MacroDecl) (plugins : List Plugin) (table : Look) (buffer : BufferSeen)
    → visit macros plugins table buffer ≡ over (given (visit macros plugins table) macros table buffer) (buffer_sites macros plugins buffer)

-- what is asked with a table is asked with each table that has its outcomes and more
abbrev pub AskedRequestsGrow : Type 0
AskedRequestsGrow = (macros : List MacroDecl) (plugins : List Plugin) (table wider : Look) (buffer : BufferSeen) (request : Request) → IsWithin table wider
    → Contains (visit macros plugins table buffer).asked request → Contains (visit macros plugins wider buffer).asked request

-- tables that agree on what is asked with the one give one answer
abbrev pub AnswersByAskedAlone : Type 0
AnswersByAskedAlone = (macros : List MacroDecl) (plugins : List Plugin) (table other : Look) (source : BufferSeen)
    → ((request : Request) → Contains (visit macros plugins table source).asked request → table request.key ≡ other request.key)
    → answer_of macros plugins table source ≡ answer_of macros plugins other source

-- what the visit asks is what the rules ask
abbrev pub AskedByRules : Type 0
AskedByRules = (macros : List MacroDecl) (plugins : List Plugin) (table : Look) (source : BufferSeen) (request : Request)
    → Contains (visit macros plugins table source).asked request → IsAsked macros plugins table source request

abbrev pub RulesAreAsked : Type 0
RulesAreAsked = (macros : List MacroDecl) (plugins : List Plugin) (table : Look) (source : BufferSeen) (request : Request)
    → IsAsked macros plugins table source request → Contains (visit macros plugins table source).asked request

-- what is asked can be written, where the source is an accepted one and its macros' modules and types are UTF-8
abbrev pub RequestsAreWritable : Type 0
RequestsAreWritable = (macros : List MacroDecl) (plugins : List Plugin) (table : Look) (source : BufferSeen) → IsSound source → All IsDeclReadable macros
    → All IsRequestWritable (visit macros plugins table source).asked

-- the edits of a source can be made
abbrev pub EditsCanBeMade : Type 0
EditsCanBeMade = (macros : List MacroDecl) (plugins : List Plugin) (table : Look) (source : BufferSeen) → IsSound source
    → CanBeMade (length source.outline.text) (visit macros plugins table source).edits

abbrev pub replaced : Edit → Span
replaced edit = record { start = edit.start; end = edit.end }

-- where each request has an outcome and nothing is said, the edits replace what the sites do, one edit a site
abbrev pub EditsAreOfSites : Type 0
EditsAreOfSites = (macros : List MacroDecl) (plugins : List Plugin) (table : Look) (source : BufferSeen) → lacks_outcome table (visit macros plugins table source) ≡ false
    → (visit macros plugins table source).messages ≡ [] → map replaced (visit macros plugins table source).edits ≡ spans_of (buffer_sites macros plugins source)

-- no word of an accepted file is a unique name of a request
abbrev pub WordsAreNotUnique : Type 0
WordsAreNotUnique = (text : List ℕ) (seen : OutlineSeen) (tokens : List Token) → IsOutline text File (Ok seen) → read_tokens text ≡ Ok tokens
    → (token : Token) → Contains tokens token → (key : List KeyStep) → IsUnique (discriminator_of key) (name_bytes text token.class token) → ⊥
