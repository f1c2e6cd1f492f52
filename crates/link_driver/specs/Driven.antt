-- What a driver has done for all that it was asked so far, turn by turn. This project's own.
use Rattle.std.specs.Prelude.{◌≡◌, ℕ, zero, suc, ◌+◌, ◌-◌, ◌<◌, ◌≤◌, ◌++◌, ◌⊎◌, true, Option, Some, None, option_map, List, [], ◌∷◌, length, map}
use Rattle.std.specs.List.{flat_map}
use Rattle.swift_base.specs.Told.{Rose}
use Rattle.swift_base.specs.Outside.{SourceSeen, SinkSeen, StarterSeen, TakesLink, then_started, then_failed}
use Rattle.plugin_frames.specs.Frames.{Rest, IsFrames}
use Rattle.plugin_messages.specs.PluginOf.{plugin_message_of}
use Rattle.link_driver.specs.declared.link.TheConstants.{MOST_BYTES}
use Rattle.link_driver.specs.declared.link.Unstarted.{Unstarted}
use Rattle.link_driver.specs.declared.driver.Done.{Done}
use Rattle.link_driver.specs.declared.driver.Driver.{Driver}
use Rattle.link_driver.specs.Links.{LinkSeen, RunningSeen, link_seen, running_seen, whole_of, running_whole, StopHasCause, HasNotStopped, Holds, IsWritten}
use Rattle.link_driver.specs.LinkTable.{is_capability, is_result}
use Rattle.link_driver.specs.Lists.{Each}
use Rattle.link_driver.specs.Requests.{Wanted, key_of, module_of, write_for, sent_for, first_command}

-- A driver, apart from where it lies in memory.
pub record DriverSeen : Type 0 where
  pub links : List LinkSeen
  pub unstarted : List Unstarted
  pub room : ℕ
  pub running : Option RunningSeen

abbrev pub done_seen : {W R : Type 0} → (W → SinkSeen) → (R → SourceSeen) → Done W R → Option RunningSeen → DriverSeen
done_seen writer_seen reader_seen done running = record {
  links = map (link_seen writer_seen reader_seen) done.closed.items;
  unstarted = done.unstarted.items;
  room = done.room;
  running = running;
}

abbrev pub driver_seen : {W R : Type 0} → (W → SinkSeen) → (R → SourceSeen) → Driver W R → DriverSeen
driver_seen writer_seen reader_seen driver =
    done_seen writer_seen reader_seen driver.done (option_map (running_seen writer_seen reader_seen) driver.running)

abbrev pub MayGoOn : Option RunningSeen → Type 0
MayGoOn None = Unit {0}
MayGoOn (Some link) = HasNotStopped link.reader

-- the process that may be asked again, where there is one, neither ended nor failed so far
abbrev pub IsSound : DriverSeen → Type 0
IsSound driver = MayGoOn driver.running

-- the process that runs, where there is one, is the module's
abbrev pub RunsFor : List ℕ → Option RunningSeen → Type 0
RunsFor module_name None = Unit {0}
RunsFor module_name (Some link) = link.module_name ≡ module_name

-- how many bytes processes gave
abbrev pub bytes_of : List LinkSeen → ℕ
bytes_of [] = 0
bytes_of (link ∷ links) = length link.got + bytes_of links

abbrev pub running_bytes : Option RunningSeen → ℕ
running_bytes None = 0
running_bytes (Some link) = length link.got

-- the processes gave more than is read, so that nothing more is asked
abbrev pub IsSpent : DriverSeen → Type 0
IsSpent driver = MOST_BYTES < bytes_of driver.links + running_bytes driver.running

-- Payloads that answer the greeting and then at least so many requests.
pub record HasGreeted (count : ℕ) (payloads : List (List ℕ)) : Type 0 where
  pub greeting : List ℕ
  pub replies : List (List ℕ)
  pub in_order : payloads ≡ greeting ∷ replies
  pub greets : is_capability (plugin_message_of greeting) ≡ true
  pub enough : count ≤ length replies
  pub each : Each (λ reply. is_result reply ≡ true) replies

-- no payload where nothing was asked
abbrev pub AreReplies : ℕ → List (List ℕ) → Type 0
AreReplies zero payloads = payloads ≡ []
AreReplies (suc n) payloads = HasGreeted (suc n) payloads

-- bytes that begin with the frames of the greeting's answer and of at least so many replies
pub record HasReplies (count : ℕ) (got : List ℕ) : Type 0 where
  pub front : List ℕ
  pub behind : List ℕ
  pub payloads : List (List ℕ)
  pub whole : got ≡ front ++ behind
  pub frames : IsFrames front payloads (Rest [])
  pub replies : AreReplies count payloads

-- A process that was asked these requests, has answered each of them, and nothing more.
pub record IsReady (requests : List Wanted) (link : RunningSeen) : Type 0 where
  pub asked : link.asked ≡ map key_of requests
  pub of_module : Each (λ wanted. module_of wanted ≡ link.module_name) requests
  pub held : Holds (sent_for requests) link.writer
  pub not_stopped : HasNotStopped link.reader
  pub payloads : List (List ℕ)
  pub frames : IsFrames link.got payloads (Rest [])
  pub replies : AreReplies (length requests) payloads

-- A process that was asked some requests of its module, and then the last: it was given their frames, and each but
-- the last was answered before the next was asked.
pub record IsProcess (earlier : List Wanted) (last : Wanted) (link : LinkSeen) : Type 0 where
  pub asked : link.asked ≡ map key_of (earlier ++ last ∷ [])
  pub of_module : Each (λ wanted. module_of wanted ≡ link.module_name) (earlier ++ last ∷ [])
  pub written : IsWritten (sent_for earlier) (write_for earlier last.request) link.write_failed link.writer
  pub stopped : StopHasCause link.reader (length link.got) link.stop
  pub replied : HasReplies (length earlier) link.got

-- A start succeeded: its command was told, and the process is the first of the starter's links to come.
pub record TakesProcess (before : StarterSeen) (command : List ℕ) (whole : Option (List ℕ)) (after : StarterSeen) : Type 0 where
  pub link_taken : TakesLink before.links after.links whole
  pub commands : after.commands ≡ then_started before.commands command
  pub faults : before.faults ≤ after.faults

-- A start failed, with the starter's counts around it.
pub record IsFailedStart (before : StarterSeen) (wanted : Wanted) (entry : Unstarted) (after : StarterSeen) : Type 0 where
  pub of_key : entry.key ≡ key_of wanted
  pub count_before : entry.before ≡ before.faults
  pub count_after : entry.after ≡ after.faults
  pub rose : Rose before.faults after.faults
  pub faults : before.faults ≤ after.faults
  pub links : after.links ≡ before.links
  pub commands : after.commands ≡ then_failed before.commands wanted.command

-- A turn is a process with the requests that it was asked, the last one by itself, or a start that failed.
pub data Turn : Type 0 where
  Process : LinkSeen → List Wanted → Wanted → Turn
  Failure : Unstarted → Wanted → Turn

abbrev pub requests_in : Turn → List Wanted
requests_in (Process link earlier last) = earlier ++ last ∷ []
requests_in (Failure entry wanted) = wanted ∷ []

abbrev pub links_in : Turn → List LinkSeen
links_in (Process link earlier last) = link ∷ []
links_in (Failure entry wanted) = []

abbrev pub unstarted_in : Turn → List Unstarted
unstarted_in (Process link earlier last) = []
unstarted_in (Failure entry wanted) = entry ∷ []

-- what a turn makes of the starter
abbrev pub IsTurn : StarterSeen → Turn → StarterSeen → Type 0
IsTurn before (Process link earlier last) after = IsProcess earlier last link × TakesProcess before (first_command earlier last) (whole_of link) after
IsTurn before (Failure entry wanted) after = IsFailedStart before wanted entry after

-- turns, one after another, and nothing else was made of the starter
abbrev pub AreTurns : StarterSeen → List Turn → StarterSeen → Type 0
AreTurns before [] after = after ≡ before
AreTurns before (turn ∷ turns) after = (between : StarterSeen) × IsTurn before turn between × AreTurns between turns after

-- The last request was asked when the processes had given no more than is read: those before so many bytes, and this
-- one no more than the answers to its earlier requests.
pub record IsAskedWithin (given : ℕ) (earlier : List Wanted) (got : List ℕ) : Type 0 where
  pub replied : HasReplies (length earlier) got
  pub few : given + length replied.front ≤ MOST_BYTES

abbrev pub IsWithin : ℕ → Turn → Type 0
IsWithin given (Process link earlier last) = IsAskedWithin given earlier link.got
IsWithin given (Failure entry wanted) = given ≤ MOST_BYTES

-- nothing was asked once the processes had given more than is read, as many bytes having been given before
abbrev pub AreWithin : ℕ → List Turn → Type 0
AreWithin given [] = Unit {0}
AreWithin given (turn ∷ turns) = IsWithin given turn × AreWithin (given + bytes_of (links_in turn)) turns

-- a process that may be asked again, from the starter before it was started, with the requests that it was asked
pub record Runs (given : ℕ) (before : StarterSeen) (link : RunningSeen) (requests : List Wanted) (after : StarterSeen) : Type 0 where
  pub earlier : List Wanted
  pub last : Wanted
  pub in_order : requests ≡ earlier ++ last ∷ []
  pub ready : IsReady requests link
  pub asked_within : IsAskedWithin given earlier link.got
  pub started : TakesProcess before (first_command earlier last) (running_whole link) after

abbrev pub IsRunning : ℕ → StarterSeen → Option RunningSeen → List Wanted → StarterSeen → Type 0
IsRunning given before None requests after = (requests ≡ []) × (after ≡ before)
IsRunning given before (Some link) requests after = Runs given before link requests after

-- What was done for all that is wanted so far: turn by turn, then what the process that may be asked again was asked,
-- and what is left because processes gave more bytes than are read.
pub record IsDriven (wanted : List Wanted) (before : StarterSeen) (driver : DriverSeen) (after : StarterSeen) : Type 0 where
  pub turns : List Turn
  pub requests : List Wanted
  pub left : List Wanted
  pub in_order : wanted ≡ flat_map requests_in turns ++ (requests ++ left)
  pub links : driver.links ≡ flat_map links_in turns
  pub unstarted : driver.unstarted ≡ flat_map unstarted_in turns
  pub between : StarterSeen
  pub are_turns : AreTurns before turns between
  pub within : AreWithin 0 turns
  pub running : IsRunning (bytes_of driver.links) between driver.running requests after
  pub room : driver.room ≡ (MOST_BYTES + 1) - bytes_of driver.links
  pub limit : (left ≡ []) ⊎ IsSpent driver
