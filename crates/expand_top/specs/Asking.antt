-- What is asked for a source, and what is written for it. This project's own.
use Rattle.std.specs.Prelude.{◌≡◌, ℕ, ◌<◌, ◌≤◌, Bool, true, false, List, [], All, map, sum_by}
use Rattle.std.specs.Cmp.Lexicographic.{pointwise}
use Rattle.std.specs.List.{Contains}
use Rattle.std.specs.Option.{option_map_or}
use Rattle.std.specs.Str.{IsUtf8}
use Rattle.swift_base.specs.Outside.{StarterSeen}
use Rattle.swift_base.specs.declared.plugins.Plugin.{Plugin}
use Rattle.unique_names.specs.Steps.{step_eq}
use Rattle.plugin_messages.specs.declared.request.Request.{Request}
use Rattle.expansion_model.specs.Answer.{answer_of}
use Rattle.expansion_model.specs.Buffers.{source_buffer}
use Rattle.expansion_model.specs.Macros.{plugin_for}
use Rattle.expansion_model.specs.Visit.{visit}
use Rattle.expansion_model.specs.declared.answer.Answer.{Answer}
use Rattle.expansion_model.specs.declared.answer.Answer.TheVariants as answer
use Rattle.expansion_model.specs.declared.answer.LimitKind.TheVariants as limit
use Rattle.link_driver.specs.Driven.{bytes_of}
use Rattle.link_driver.specs.Links.{KeySteps, LinkSeen}
use Rattle.link_driver.specs.LinkTable.{Look, IsRunTable, asked_keys}
use Rattle.link_driver.specs.Ran.{HasRun}
use Rattle.link_driver.specs.Requests.{Wanted, wanted_of, key_of}
use Rattle.link_driver.specs.declared.link.TheConstants.{MOST_BYTES}
use Rattle.link_driver.specs.declared.link.Unstarted.{Unstarted}
use Rattle.expand_top.specs.Answers.{output_of}
use Rattle.expand_top.specs.Lines.{Output}
use Rattle.expand_top.specs.Meaning.{Meaning, Refused, Means}

-- a command that can be started: it is UTF-8
abbrev pub IsStartable : Plugin → Type 0
IsStartable plugin = IsUtf8 plugin.command

-- the command of a module
abbrev pub command_for : List Plugin → List ℕ → List ℕ
command_for plugins module_name = option_map_or (λ plugin. plugin.command) (plugin_for module_name plugins) []

-- a request, and the command of its module
abbrev pub wanted_for : List Plugin → Request → Wanted
wanted_for plugins request = wanted_of (command_for plugins request.target.module) request

-- what is asked for what the files mean, with a table of outcomes
abbrev pub asked_in : List ℕ → List Plugin → Meaning → Look → List Request
asked_in name plugins (Refused refusal) table = []
asked_in name plugins (Means source macros) table = (visit macros plugins table (source_buffer name source)).asked

-- what is written for it
abbrev pub output_in : List ℕ → List Plugin → Meaning → Look → Output
output_in name plugins (Refused refusal) table = refusal
output_in name plugins (Means source macros) table = output_of name (answer_of macros plugins table (source_buffer name source))

abbrev pub is_limit : Answer → Bool
is_limit (answer.Limit kind) = true
is_limit (answer.File bytes) = false
is_limit (answer.Faults messages) = false

-- a limit was met
abbrev pub is_limited : List ℕ → List Plugin → Meaning → Look → Bool
is_limited name plugins (Refused refusal) table = false
is_limited name plugins (Means source macros) table = is_limit (answer_of macros plugins table (source_buffer name source))

-- the answer is the limit of bytes
abbrev pub is_limit_of_bytes : Answer → Bool
is_limit_of_bytes (answer.Limit limit.Bytes) = true
is_limit_of_bytes (answer.Limit limit.Requests) = false
is_limit_of_bytes (answer.File bytes) = false
is_limit_of_bytes (answer.Faults messages) = false

abbrev pub ends_by_bytes : List ℕ → List Plugin → Meaning → Look → Bool
ends_by_bytes name plugins (Refused refusal) table = false
ends_by_bytes name plugins (Means source macros) table = is_limit_of_bytes (answer_of macros plugins table (source_buffer name source))

-- What was asked: the processes and the failed starts that are handed back, and the starter before and after.
pub record Asking : Type 0 where
  pub links : List LinkSeen
  pub unstarted : List Unstarted
  pub before : StarterSeen
  pub after : StarterSeen

abbrev pub asking_of : List LinkSeen → List Unstarted → StarterSeen → StarterSeen → Asking
asking_of links unstarted before after = record { links = links; unstarted = unstarted; before = before; after = after }

-- the keys that were asked
abbrev pub keys_of : Asking → List KeySteps
keys_of asking = asked_keys asking.links asking.unstarted

-- one of the requests, with the command of its module
pub record IsOneOf (plugins : List Plugin) (asked : List Request) (wanted : Wanted) : Type 0 where
  pub request : Request
  pub among : Contains asked request
  pub is : wanted ≡ wanted_for plugins request

abbrev pub one_if : Bool → ℕ
one_if true = 1
one_if false = 0

-- how often a key stands in a list
abbrev pub times : KeySteps → List KeySteps → ℕ
times key keys = sum_by (λ other. one_if (pointwise step_eq key other)) keys

-- no key stands twice
abbrev pub AreDifferent : List KeySteps → Type 0
AreDifferent keys = (key : KeySteps) → times key keys ≤ 1

-- What was wanted, in the order in which it was asked: requests of the list, each at most once.
pub record IsAskedOf (plugins : List Plugin) (asked : List Request) (asking : Asking) : Type 0 where
  pub wanted : List Wanted
  pub ran : HasRun wanted asking.before asking.links asking.unstarted asking.after
  pub each : All (IsOneOf plugins asked) wanted
  pub different : AreDifferent (map key_of wanted)

-- What is asked and written for what the files mean: both by the table of what was asked. The limit of bytes is met only
-- where the processes gave more.
pub record IsExpansion (name : List ℕ) (plugins : List Plugin) (means : Meaning) (asking : Asking) (output : Output) : Type 0 where
  pub table : Look
  pub is_table : IsRunTable table asking.links asking.unstarted
  pub asks : IsAskedOf plugins (asked_in name plugins means table) asking
  pub writes : output ≡ output_in name plugins means table
  pub spent : ends_by_bytes name plugins means table ≡ true → MOST_BYTES < bytes_of asking.links
