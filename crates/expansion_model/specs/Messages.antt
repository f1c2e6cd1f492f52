-- Messages, and where they stand. This project's own.
use Rattle.std.specs.Prelude.{◌≡◌, ◌<◌, ℕ, List, take, length}
use Rattle.swift_base.specs.Lines.{line_behind, column_behind}
use Rattle.decl_parser.specs.declared.parse.TheConstants.{LONGEST_SOURCE}
use Rattle.expansion_model.specs.Buffers.{BufferSeen}
use Rattle.expansion_model.specs.declared.message.Message.{Message}
use Rattle.expansion_model.specs.declared.message.MessageText.{MessageText}
use Rattle.expansion_model.specs.declared.message.MessageText.TheVariants as says
use Rattle.result_reader.specs.declared.fault.ResultKind.{ResultKind}
use Rattle.result_reader.specs.declared.fault.ResultKind.TheVariants as refused

-- at an offset of a text that has this name
abbrev pub message_at : List ℕ → List ℕ → ℕ → MessageText → Message
message_at name text at says = record { name = name; line = line_behind (take at text); column = column_behind (take at text); text = says }

abbrev pub message_in : BufferSeen → ℕ → MessageText → Message
message_in buffer at says = message_at buffer.name buffer.outline.text at says

-- what a refusal of a macro's reply says
abbrev pub refusal_text : List ℕ → ResultKind → MessageText
refusal_text macro_name (refused.Parse kind) = says.Parse kind
refusal_text macro_name refused.ForbiddenKind = says.ForbiddenKind macro_name
refusal_text macro_name refused.FileScopeArbitrary = says.FileScopeArbitrary
refusal_text macro_name (refused.Uncovered name) = says.Uncovered name macro_name

-- the refusal of a text that is too long to be read stands at its beginning
abbrev pub IsNear : List ℕ → ℕ → Type 0
IsNear reply at = LONGEST_SOURCE < length reply → at ≡ 0
