-- What is still to be asked for a source, or its answer. This project's own.
use Rattle.std.specs.Prelude.{◌≡◌, ℕ, if◌then◌else◌, List, [], ◌∷◌, filter}
use Rattle.swift_base.specs.declared.plugins.Plugin.{Plugin}
use Rattle.macro_decls.specs.declared.table.MacroDecl.{MacroDecl}
use Rattle.plugin_messages.specs.declared.request.Request.{Request}
use Rattle.expansion_model.specs.Answer.{are_too_many, answer_of, by_messages}
use Rattle.expansion_model.specs.Buffers.{BufferSeen}
use Rattle.expansion_model.specs.Table.{Look, is_missing}
use Rattle.expansion_model.specs.Visit.{Found, visit}
use Rattle.expansion_model.specs.declared.answer.Answer.{Answer}
use Rattle.expansion_model.specs.declared.answer.Answer.TheVariants as answer
use Rattle.expansion_model.specs.declared.answer.LimitKind.TheVariants as limit
use Rattle.expansion_model.specs.declared.expanding.Step as code
use Rattle.expansion_model.specs.declared.expanding.Step.TheVariants as step

-- the answer, or the first request without an outcome, in the order of the visit, and those behind it
pub data StepSeen : Type 0 where
  Done : Answer → StepSeen
  Missing : Request → List Request → StepSeen

abbrev pub by_missing : List ℕ → Found → List Request → StepSeen
by_missing text found [] = Done (by_messages text found found.messages)
by_missing text found (first ∷ others) = Missing first others

abbrev pub step_by : Look → List ℕ → Found → StepSeen
step_by table text found =
    if are_too_many found then Done (answer.Limit limit.Requests) else by_missing text found (filter (is_missing table) found.asked)

-- the step of a source with a table of outcomes
unfoldable pub step_of : List MacroDecl → List Plugin → Look → BufferSeen → StepSeen
step_of macros plugins table source = step_by table source.outline.text (visit macros plugins table source)

abbrev pub step_seen : code.Step → StepSeen
step_seen (step.Done answer) = Done answer
step_seen (step.Missing first others) = Missing first others.items

-- requests that are asked and have no outcome; with this table the answer is a limit
pub record AreMissing (macros : List MacroDecl) (plugins : List Plugin) (table : Look) (source : BufferSeen) (requests : List Request) : Type 0 where
  pub are : requests ≡ filter (is_missing table) (visit macros plugins table source).asked
  pub answers : answer_of macros plugins table source ≡ answer.Limit limit.Bytes

-- what a step says of the answer
abbrev pub IsStep : List MacroDecl → List Plugin → Look → BufferSeen → StepSeen → Type 0
IsStep macros plugins table source (Done answer) = answer ≡ answer_of macros plugins table source
IsStep macros plugins table source (Missing first others) = AreMissing macros plugins table source (first ∷ others)
