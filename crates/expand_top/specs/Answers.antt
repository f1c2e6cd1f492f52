-- What is written for an answer. This project's own.
use Rattle.std.specs.Prelude.{ℕ, List}
use Rattle.std.specs.List.{flat_map}
use Rattle.expansion_model.specs.declared.answer.Answer.{Answer}
use Rattle.expansion_model.specs.declared.answer.Answer.TheVariants as answer
use Rattle.expansion_model.specs.declared.message.Message.{Message}
use Rattle.expand_top.specs.Faults.{message_text, limit_text}
use Rattle.expand_top.specs.Lines.{Output, error_line, faults, prints, refuses}

abbrev pub message_line : Message → List ℕ
message_line message = error_line message.name message.line message.column (message_text message.text)

-- the file, all messages, or the one line of a limit, which stands at the beginning of the file of this name
abbrev pub output_of : List ℕ → Answer → Output
output_of name (answer.File bytes) = prints bytes
output_of name (answer.Faults messages) = faults (flat_map message_line messages)
output_of name (answer.Limit kind) = refuses name 1 1 (limit_text kind)
