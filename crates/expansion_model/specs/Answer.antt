-- The answer for a source and a table of outcomes. This project's own.
use Rattle.std.specs.Prelude.{ℕ, nat_lt, Bool, if◌then◌else◌, List, [], ◌∷◌, length}
use Rattle.std.specs.List.{list_any}
use Rattle.swift_base.specs.declared.plugins.Plugin.{Plugin}
use Rattle.macro_decls.specs.declared.table.MacroDecl.{MacroDecl}
use Rattle.result_splice.specs.Edits.{edited_text}
use Rattle.expansion_model.specs.Buffers.{BufferSeen}
use Rattle.expansion_model.specs.Table.{Look, is_missing}
use Rattle.expansion_model.specs.Visit.{Found, visit}
use Rattle.expansion_model.specs.declared.answer.Answer.{Answer}
use Rattle.expansion_model.specs.declared.answer.Answer.TheVariants as answer
use Rattle.expansion_model.specs.declared.answer.LimitKind.TheVariants as limit
use Rattle.expansion_model.specs.declared.answer.TheConstants.{MOST_REQUESTS}
use Rattle.expansion_model.specs.declared.message.Message.{Message}

-- more requests than are asked for one source
abbrev pub are_too_many : Found → Bool
are_too_many found = nat_lt MOST_REQUESTS (length found.asked)

-- a request has no outcome
abbrev pub lacks_outcome : Look → Found → Bool
lacks_outcome table found = list_any (is_missing table) found.asked

-- the file, where nothing is said
abbrev pub by_messages : List ℕ → Found → List Message → Answer
by_messages text found [] = answer.File (edited_text text found.edits)
by_messages text found (message ∷ messages) = answer.Faults (message ∷ messages)

-- the answer by what the visit found in a buffer with this text
abbrev pub answer_by : Look → List ℕ → Found → Answer
answer_by table text found =
    if are_too_many found then answer.Limit limit.Requests
    else (if lacks_outcome table found then answer.Limit limit.Bytes else by_messages text found found.messages)

-- The answer for a source: a limit, else all messages where there is one, else the file.
unfoldable pub answer_of : List MacroDecl → List Plugin → Look → BufferSeen → Answer
answer_of macros plugins table source = answer_by table source.outline.text (visit macros plugins table source)
