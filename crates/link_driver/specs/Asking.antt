-- What one more request makes of a process and of a driver. This project's own.
use Rattle.std.specs.Prelude.{◌≡◌, ℕ, ◌-◌, ◌++◌, Bool, false, Option, Some, None, List, [], ◌∷◌, length}
use Rattle.swift_base.specs.Outside.{SourceSeen, SinkSeen}
use Rattle.link_driver.specs.declared.talk.Answered.{Answered}
use Rattle.link_driver.specs.declared.talk.Answered.TheVariants as answered
use Rattle.plugin_messages.specs.declared.message.Outcome.{Outcome}
use Rattle.link_driver.specs.LinkTable.{IsLastOutcome}
use Rattle.link_driver.specs.Awaiting.{Replies, HasNoReply}
use Rattle.link_driver.specs.Driven.{DriverSeen}
use Rattle.link_driver.specs.Links.{KeySteps, LinkSeen, RunningSeen, link_seen, running_seen, StopHasCause, HasNotStopped, Gains, Holds, IsGiven, IsWritten}

-- A process is asked nothing more: its writer was closed, and its reader was read to its stop.
pub record IsRetired (link : RunningSeen) (write_failed : Bool) (closed : LinkSeen) : Type 0 where
  pub module_name : closed.module_name ≡ link.module_name
  pub asked : closed.asked ≡ link.asked
  pub failed : closed.write_failed ≡ write_failed
  pub written : (earlier last : List ℕ) → IsGiven earlier last write_failed link.writer → IsWritten earlier last write_failed closed.writer
  pub stopped : StopHasCause closed.reader (length closed.got) closed.stop
  pub gains : Gains link.reader link.got closed.reader closed.got

-- a process was asked for one more key, and answered it
pub record HasAnswered (link : RunningSeen) (key : KeySteps) (sent : List ℕ) (is_first : Bool) (outcome : Outcome) (next : RunningSeen) : Type 0 where
  pub module_name : next.module_name ≡ link.module_name
  pub asked : next.asked ≡ link.asked ++ key ∷ []
  pub held : (bytes : List ℕ) → Holds bytes link.writer → Holds (bytes ++ sent) next.writer
  pub not_stopped : HasNotStopped next.reader
  pub gains : Gains link.reader link.got next.reader next.got
  pub replies : Replies is_first outcome link.got next.got

-- A process was asked for one more key, and is asked nothing more: its write failed, or what it gave isn't the answer.
pub record HasEnded (link : RunningSeen) (key : KeySteps) (sent : List ℕ) (is_first : Bool) (closed : LinkSeen) : Type 0 where
  pub module_name : closed.module_name ≡ link.module_name
  pub asked : closed.asked ≡ link.asked ++ key ∷ []
  pub written : (bytes : List ℕ) → Holds bytes link.writer → IsWritten bytes sent closed.write_failed closed.writer
  pub stopped : StopHasCause closed.reader (length closed.got) closed.stop
  pub gains : Gains link.reader link.got closed.reader closed.got
  pub unanswered : closed.write_failed ≡ false → HasNoReply is_first link.got closed.got

abbrev pub IsAnswered : {W R : Type 0} → (W → SinkSeen) → (R → SourceSeen) → RunningSeen → KeySteps → List ℕ → Bool → Answered W R → Type 0
IsAnswered writer_seen reader_seen link key sent is_first (answered.Ready next outcome) = HasAnswered link key sent is_first outcome (running_seen writer_seen reader_seen next)
IsAnswered writer_seen reader_seen link key sent is_first (answered.Retired closed) = HasEnded link key sent is_first (link_seen writer_seen reader_seen closed)

-- what became of the last key that a process was asked
abbrev pub IsLastOf : LinkSeen → Option Outcome → Type 0
IsLastOf link last = IsLastOutcome (length link.asked) link.got link.stop link.write_failed last

-- What one more request of a process makes of a driver that had none running otherwise, and the request's outcome.
pub data IsAskedOf (done : DriverSeen) (link : RunningSeen) (key : KeySteps) (sent : List ℕ) (is_first : Bool) (outcome : Option Outcome) (next : DriverSeen) : Type 0 where
  goes_on : (answered : RunningSeen) (reply : Outcome) → HasAnswered link key sent is_first reply answered → outcome ≡ Some reply
      → next ≡ record done { running = Some answered } → IsAskedOf done link key sent is_first outcome next
  ends : (closed : LinkSeen) → HasEnded link key sent is_first closed → IsLastOf closed outcome
      → next ≡ record done { links = done.links ++ closed ∷ []; room = done.room - length closed.got; running = None }
      → IsAskedOf done link key sent is_first outcome next
