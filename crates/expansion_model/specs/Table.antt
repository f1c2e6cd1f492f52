-- Outcomes by their keys. This project's own.
use Rattle.std.specs.Prelude.{◌≡◌, Bool, true, false, Option, Some, None, List}
use Rattle.std.specs.Cmp.Lexicographic.{pointwise}
use Rattle.indexmap.specs.IndexMap.{get}
use Rattle.unique_names.specs.declared.step.KeyStep.{KeyStep}
use Rattle.unique_names.specs.Steps.{step_eq}
use Rattle.plugin_messages.specs.declared.message.Outcome.{Outcome}
use Rattle.plugin_messages.specs.declared.request.Request.{Request}
use Rattle.expansion_model.specs.declared.table.Table.{Table}

-- a table is what it gives for each key
abbrev pub Look : Type 0
Look = List KeyStep → Option Outcome

-- what the code's table has under a key
abbrev pub look : Table → Look
look table key = get (pointwise step_eq) table.outcomes key

abbrev pub is_none : Option Outcome → Bool
is_none None = true
is_none (Some outcome) = false

-- the request has no outcome
abbrev pub is_missing : Look → Request → Bool
is_missing table request = is_none (table request.key)

-- each outcome of the first table is in the second
abbrev pub IsWithin : Look → Look → Type 0
IsWithin table wider = (key : List KeyStep) (outcome : Outcome) → table key ≡ Some outcome → wider key ≡ Some outcome
