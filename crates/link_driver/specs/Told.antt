-- The table so far: what becomes known of each key as soon as it was asked. This project's own.
use Rattle.std.specs.Prelude.{◌≡◌, ℕ, ◌+◌, ◌-◌, ◌++◌, ◌⊎◌, false, Option, Some, None, option_map, List, [], length, map, slice_get}
use Rattle.std.specs.List.{Contains}
use Rattle.plugin_frames.specs.Frames.{Rest, IsFrames}
use Rattle.plugin_messages.specs.PluginOf.{plugin_message_of}
use Rattle.plugin_messages.specs.declared.message.Outcome.{Outcome}
use Rattle.link_driver.specs.declared.link.TheConstants.{MOST_BYTES}
use Rattle.link_driver.specs.Links.{KeySteps, RunningSeen}
use Rattle.link_driver.specs.LinkTable.{reply_outcome, greets_badly, each_below, Look, TellsLink, TellsFailure, asked_keys}
use Rattle.link_driver.specs.Lists.{Each}
use Rattle.link_driver.specs.Driven.{DriverSeen, IsSpent, bytes_of}

-- the outcome by the payload in the place of the reply with this number, from 0
abbrev pub payload_outcome : List (List ℕ) → ℕ → Option Outcome
payload_outcome payloads number = option_map (λ payload. reply_outcome (plugin_message_of payload)) (slice_get payloads (number + 1))

-- The process that may be asked again has answered the greeting and then each key that it was asked, and the table has
-- what each answer says.
pub record TellsRunning (table : Look) (link : RunningSeen) : Type 0 where
  pub payloads : List (List ℕ)
  pub frames : IsFrames link.got payloads (Rest [])
  pub greets : greets_badly payloads ≡ false
  pub all : length payloads ≡ length link.asked + 1
  pub tells : map table link.asked ≡ each_below (payload_outcome payloads) (length link.asked)

abbrev pub TellsAny : Look → Option RunningSeen → Type 0
TellsAny table None = Unit {0}
TellsAny table (Some link) = TellsRunning table link

abbrev pub running_keys : Option RunningSeen → List KeySteps
running_keys None = []
running_keys (Some link) = link.asked

-- all that was asked so far
abbrev pub driver_keys : DriverSeen → List KeySteps
driver_keys driver = asked_keys driver.links driver.unstarted ++ running_keys driver.running

-- The table so far: what the processes and the failed starts tell, and nothing else. Each key that was asked has an
-- outcome, or nothing more is asked.
pub record HasTable (table : Look) (driver : DriverSeen) : Type 0 where
  pub links_tell : Each (TellsLink table) driver.links
  pub failures_tell : Each (TellsFailure table) driver.unstarted
  pub running_tells : TellsAny table driver.running
  pub no_others : (key : KeySteps) → ¬ Contains (driver_keys driver) key → table key ≡ None
  pub decided : IsSpent driver ⊎ ((key : KeySteps) → Contains (driver_keys driver) key → ¬ (table key ≡ None))
  pub room : driver.room ≡ (MOST_BYTES + 1) - bytes_of driver.links

-- one key's outcome is put into a table, where it has one
abbrev pub IsPut : Look → KeySteps → Option Outcome → Look → Type 0
IsPut table key None after = (k : KeySteps) → after k ≡ table k
IsPut table key (Some outcome) after = (after key ≡ Some outcome) × ((k : KeySteps) → ¬ (k ≡ key) → after k ≡ table k)
