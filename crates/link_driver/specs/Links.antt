-- One process: what it was given, what it gave, and how its output stopped. This project's own.
use Rattle.std.specs.Prelude.{◌≡◌, ℕ, ◌<◌, ◌≤◌, ◌++◌, Bool, true, false, Option, Some, None, List, length, take}
use Rattle.swift_base.specs.Told.{Tells, prepend}
use Rattle.swift_base.specs.Outside.{SourceSeen, SinkSeen, IsFreshReader}
use Rattle.unique_names.specs.declared.step.KeyStep.{KeyStep}
use Rattle.link_driver.specs.declared.link.TheConstants.{MOST_BYTES}
use Rattle.link_driver.specs.declared.link.Stop.{Stop}
use Rattle.link_driver.specs.declared.link.Stop.TheVariants as stop
use Rattle.link_driver.specs.declared.link.Closed.{Closed}
use Rattle.link_driver.specs.declared.link.Running.{Running}

-- a key, as the list of its steps
abbrev pub KeySteps : Type 0
KeySteps = List KeyStep

-- A process that is asked nothing more, apart from where it lies in memory, with what its two ends tell.
pub record LinkSeen : Type 0 where
  pub module_name : List ℕ
  pub asked : List KeySteps
  pub got : List ℕ
  pub stop : Stop
  pub write_failed : Bool
  pub writer : SinkSeen
  pub reader : SourceSeen

abbrev pub link_seen : {W R : Type 0} → (W → SinkSeen) → (R → SourceSeen) → Closed W R → LinkSeen
link_seen writer_seen reader_seen link = record {
  module_name = link.module_name;
  asked = link.asked.items;
  got = link.got.items;
  stop = link.stop;
  write_failed = link.write_failed;
  writer = writer_seen link.writer;
  reader = reader_seen link.reader;
}

-- A process that may be asked again.
pub record RunningSeen : Type 0 where
  pub module_name : List ℕ
  pub asked : List KeySteps
  pub got : List ℕ
  pub writer : SinkSeen
  pub reader : SourceSeen

abbrev pub running_seen : {W R : Type 0} → (W → SinkSeen) → (R → SourceSeen) → Running W R → RunningSeen
running_seen writer_seen reader_seen link = record {
  module_name = link.module_name;
  asked = link.asked.items;
  got = link.got.items;
  writer = writer_seen link.writer;
  reader = reader_seen link.reader;
}

-- what a process gave, and then what its reader has left, where it tells that
abbrev pub whole_of : LinkSeen → Option (List ℕ)
whole_of link = prepend link.got link.reader.left

abbrev pub running_whole : RunningSeen → Option (List ℕ)
running_whole link = prepend link.got link.reader.left

-- A stop has its cause: an end or a fault of the reader, or more bytes than are read of one process, which neither
-- ended nor failed before.
abbrev pub StopHasCause : SourceSeen → ℕ → Stop → Type 0
StopHasCause reader count stop.Ended = (0 < reader.ends) × (count ≤ MOST_BYTES)
StopHasCause reader count stop.Failed = (0 < reader.faults) × (count ≤ MOST_BYTES)
StopHasCause reader count stop.Overrun = (MOST_BYTES < count) × (reader.ends ≡ 0) × (reader.faults ≡ 0)

-- a reader that neither ended nor failed so far
abbrev pub HasNotStopped : SourceSeen → Type 0
HasNotStopped = IsFreshReader

-- The reader gave these bytes more, where it tells what it has left.
pub record Gains (before : SourceSeen) (old : List ℕ) (after : SourceSeen) (new : List ℕ) : Type 0 where
  pub gained : List ℕ
  pub appended : new ≡ old ++ gained
  pub given : before.left ≡ prepend gained after.left

-- a writer that holds these bytes and isn't closed
pub record Holds (bytes : List ℕ) (writer : SinkSeen) : Type 0 where
  pub held : Tells writer.held (λ held. held ≡ bytes)
  pub open_still : Tells writer.closing (λ closing. closing ≡ None)

-- What a process was given: what was written before, and then all of the last write, or a proper front of it where
-- that write failed.
pub record IsGiven (earlier last : List ℕ) (write_failed : Bool) (writer : SinkSeen) : Type 0 where
  pub whole : write_failed ≡ false → Tells writer.held (λ held. held ≡ earlier ++ last)
  pub front : write_failed ≡ true → Tells writer.held (λ held. (n : ℕ) × (n < length last) × (held ≡ earlier ++ take n last))
  pub cause : write_failed ≡ true → 0 < writer.faults
  pub open_still : Tells writer.closing (λ closing. closing ≡ None)

-- The same, and then its input was closed.
pub record IsWritten (earlier last : List ℕ) (write_failed : Bool) (writer : SinkSeen) : Type 0 where
  pub whole : write_failed ≡ false → Tells writer.held (λ held. held ≡ earlier ++ last)
  pub front : write_failed ≡ true → Tells writer.held (λ held. (n : ℕ) × (n < length last) × (held ≡ earlier ++ take n last))
  pub cause : write_failed ≡ true → 0 < writer.faults
  pub closed : Tells writer.closing (λ closing. (at : ℕ) × (closing ≡ Some at) × Tells writer.held (λ held. at ≡ length held))
