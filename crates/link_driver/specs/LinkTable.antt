-- What became of the keys that a process was asked. This project's own; the payloads are those of swift-syntax's
-- plug-ins, by their place alone: the first answers the greeting, and each later one the request of its number.
use Rattle.std.specs.Prelude.{◌≡◌, ℕ, zero, suc, ◌+◌, ◌==◌, ◌&&◌, ◌||◌, ◌++◌, not, Bool, true, false, if◌then◌else◌, Option, Some, None, Result, Ok, Err, List, [], ◌∷◌, length, map, slice_get, ◌-◌}
use Rattle.std.specs.List.{flat_map, Contains}
use Rattle.plugin_frames.specs.Frames.{Tail, Rest, Length, IsFrames}
use Rattle.plugin_messages.specs.PluginOf.{plugin_message_of}
use Rattle.plugin_messages.specs.declared.message.PluginMessage.{PluginMessage}
use Rattle.plugin_messages.specs.declared.message.PluginMessage.TheVariants as plugin
use Rattle.plugin_messages.specs.declared.message.Reason.{Reason}
use Rattle.plugin_messages.specs.declared.message.Cause.TheVariants as cause
use Rattle.plugin_messages.specs.declared.message.Outcome.{Outcome}
use Rattle.plugin_messages.specs.declared.message.Outcome.TheVariants as outcome
use Rattle.link_driver.specs.declared.link.Stop.{Stop}
use Rattle.link_driver.specs.declared.link.Stop.TheVariants as stop
use Rattle.link_driver.specs.declared.link.Unstarted.{Unstarted}
use Rattle.link_driver.specs.Links.{KeySteps, LinkSeen}
use Rattle.link_driver.specs.Lists.{Each}

abbrev pub no_reply : Outcome
no_reply = outcome.Failed cause.NoReply

-- the outcome by the payload in a reply's place
unfoldable pub reply_outcome : Result PluginMessage Reason → Outcome
reply_outcome (Ok (plugin.Result text diagnostics)) = outcome.Reply text diagnostics
reply_outcome (Ok (plugin.Capability version)) = no_reply
reply_outcome (Ok (plugin.Loaded loaded diagnostics)) = no_reply
reply_outcome (Err reason) = no_reply

-- the payload in the greeting's place is a capability result
unfoldable pub is_capability : Result PluginMessage Reason → Bool
is_capability (Ok (plugin.Capability version)) = true
is_capability (Ok (plugin.Result text diagnostics)) = false
is_capability (Ok (plugin.Loaded loaded diagnostics)) = false
is_capability (Err reason) = false

abbrev pub is_reply : Outcome → Bool
is_reply (outcome.Reply text diagnostics) = true
is_reply (outcome.Failed cause) = false

-- the payload in a reply's place is an expansion result
abbrev pub is_result : List ℕ → Bool
is_result payload = is_reply (reply_outcome (plugin_message_of payload))

-- a length above the limit stands where the next payload would
abbrev pub is_length : Tail → Bool
is_length (Rest rest) = false
is_length (Length len) = true

-- a payload stands in the greeting's place and is none
abbrev pub greets_badly : List (List ℕ) → Bool
greets_badly [] = false
greets_badly (greeting ∷ replies) = not (is_capability (plugin_message_of greeting))

-- what follows the payloads stands in this key's place, or, for the first key, in the greeting's
abbrev pub is_next : ℕ → List (List ℕ) → Bool
is_next number payloads = (length payloads == number + 1) || ((number == 0) && (length payloads == 0))

-- the outcome where no payload stands in the reply's place: none where it may still have come
abbrev pub missing_by : Bool → Stop → Option Outcome
missing_by true stop = Some no_reply
missing_by false stop.Ended = Some no_reply
missing_by false stop.Failed = Some no_reply
missing_by false stop.Overrun = None

abbrev pub replied : Option (List ℕ) → Bool → Stop → Option Outcome
replied (Some payload) too_long stop = Some (reply_outcome (plugin_message_of payload))
replied None too_long stop = missing_by too_long stop

-- The outcome of a process's key with this number, from 0, where it was asked for so many: the first rule that decides.
unfoldable pub outcome_at : ℕ → List (List ℕ) → Bool → Stop → Bool → ℕ → Option Outcome
outcome_at count payloads too_long stop write_failed number =
    if write_failed && (number + 1 == count) then Some no_reply
    else if (number == 0) && greets_badly payloads then Some no_reply
    else replied (slice_get payloads (number + 1)) (too_long && is_next number payloads) stop

-- the values at 0, 1 and so on, below a number
abbrev pub each_below : {A : Type 0} → (ℕ → A) → ℕ → List A
each_below f zero = []
each_below f (suc n) = each_below f n ++ f n ∷ []

-- The outcomes of a process's keys, in their order.
pub record IsLinkTable (count : ℕ) (got : List ℕ) (stop : Stop) (write_failed : Bool) (outcomes : List (Option Outcome)) : Type 0 where
  pub payloads : List (List ℕ)
  pub tail : Tail
  pub frames : IsFrames got payloads tail
  pub each : outcomes ≡ each_below (outcome_at count payloads (is_length tail) stop write_failed) count

-- a process's table
abbrev pub IsTableOf : LinkSeen → List (Option Outcome) → Type 0
IsTableOf link outcomes = IsLinkTable (length link.asked) link.got link.stop link.write_failed outcomes

-- the last key's outcome
pub record IsLastOutcome (count : ℕ) (got : List ℕ) (stop : Stop) (write_failed : Bool) (last : Option Outcome) : Type 0 where
  pub payloads : List (List ℕ)
  pub tail : Tail
  pub frames : IsFrames got payloads tail
  pub is_last : last ≡ outcome_at count payloads (is_length tail) stop write_failed (count - 1)

-- A table: the outcome of a key, where there is one.
abbrev pub Look : Type 0
Look = KeySteps → Option Outcome

-- the table has a process's outcomes, and none for a key that may still have been answered
abbrev pub TellsLink : Look → LinkSeen → Type 0
TellsLink table link = (outcomes : List (Option Outcome)) × IsTableOf link outcomes × (map table link.asked ≡ outcomes)

-- the table has a failure for a start that failed
abbrev pub TellsFailure : Look → Unstarted → Type 0
TellsFailure table entry = table entry.key ≡ Some no_reply

-- the keys that were asked, of processes and of starts that failed
abbrev pub asked_keys : List LinkSeen → List Unstarted → List KeySteps
asked_keys links unstarted = flat_map (λ link. link.asked) links ++ map (λ entry. entry.key) unstarted

-- The table of a run: what its processes and its failed starts tell, and nothing else.
pub record IsRunTable (table : Look) (links : List LinkSeen) (unstarted : List Unstarted) : Type 0 where
  pub links_tell : Each (TellsLink table) links
  pub failures_tell : Each (TellsFailure table) unstarted
  pub no_others : (key : KeySteps) → ¬ Contains (asked_keys links unstarted) key → table key ≡ None
