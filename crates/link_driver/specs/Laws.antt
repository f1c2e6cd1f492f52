-- What holds of each run: who was asked what, what was started, and why a start or a stop came. This project's own.
use Rattle.std.specs.Prelude.{◌≡◌, ℕ, ◌+◌, ◌<◌, ◌≤◌, ◌++◌, ◌⊎◌, true, Option, Some, None, List, [], ◌∷◌, length, map, slice_get}
use Rattle.std.specs.List.Sorted.{IsPermutation}
use Rattle.swift_base.specs.Told.{Rose}
use Rattle.swift_base.specs.Outside.{StarterSeen, Commands}
use Rattle.plugin_messages.specs.declared.message.Outcome.{Outcome}
use Rattle.link_driver.specs.declared.link.TheConstants.{MOST_BYTES}
use Rattle.link_driver.specs.declared.link.Unstarted.{Unstarted}
use Rattle.link_driver.specs.Links.{LinkSeen, whole_of, StopHasCause}
use Rattle.link_driver.specs.LinkTable.{IsTableOf, is_reply, asked_keys}
use Rattle.link_driver.specs.Lists.{Each}
use Rattle.link_driver.specs.Requests.{Wanted, key_of, first_command}
use Rattle.link_driver.specs.Driven.{IsProcess, bytes_of}
use Rattle.link_driver.specs.Ran.{HasRun}

-- Each request is asked once, or left; what is left are the last, and only where the processes gave more bytes than
-- are read.
pub record AsksOnce (wanted : List Wanted) (links : List LinkSeen) (unstarted : List Unstarted) : Type 0 where
  pub taken : List Wanted
  pub left : List Wanted
  pub in_order : wanted ≡ taken ++ left
  pub once : IsPermutation (map key_of taken) (asked_keys links unstarted)
  pub all : IsPermutation (map key_of wanted) (asked_keys links unstarted ++ map key_of left)
  pub limit : (left ≡ []) ⊎ (MOST_BYTES < bytes_of links)

abbrev pub RunsAskOnce : Type 0
RunsAskOnce = (wanted : List Wanted) (before : StarterSeen) (links : List LinkSeen) (unstarted : List Unstarted) (after : StarterSeen)
    → HasRun wanted before links unstarted after → AsksOnce wanted links unstarted

-- The requests come from the list, in its order.
pub data IsSublist : List Wanted → List Wanted → Type 0 where
  none : (others : List Wanted) → IsSublist [] others
  takes : (first : Wanted) (some others : List Wanted) → IsSublist some others → IsSublist (first ∷ some) (first ∷ others)
  skips : (first : Wanted) (some others : List Wanted) → IsSublist some others → IsSublist some (first ∷ others)

-- Each process was asked requests of its module, in the order in which they were wanted.
pub record IsServedOf (wanted : List Wanted) (link : LinkSeen) : Type 0 where
  pub earlier : List Wanted
  pub last : Wanted
  pub serves : IsProcess earlier last link
  pub wanted_so : IsSublist (earlier ++ last ∷ []) wanted

abbrev pub ProcessesServe : Type 0
ProcessesServe = (wanted : List Wanted) (before : StarterSeen) (links : List LinkSeen) (unstarted : List Unstarted) (after : StarterSeen)
    → HasRun wanted before links unstarted after → Each (IsServedOf wanted) links

-- each key but the last has a reply
abbrev pub HasRepliesButLast : List (Option Outcome) → Type 0
HasRepliesButLast outcomes = (number : ℕ) → number + 1 < length outcomes → (o : Outcome) × (slice_get outcomes number ≡ Some (Some o)) × (is_reply o ≡ true)

abbrev pub OnlyLastKeysFail : Type 0
OnlyLastKeysFail = (earlier : List Wanted) (last : Wanted) (link : LinkSeen) (outcomes : List (Option Outcome))
    → IsProcess earlier last link → IsTableOf link outcomes → HasRepliesButLast outcomes

-- The links that the starter told beforehand are those of the processes, in the order of their starts, and then
-- those that are still to come.
abbrev pub GaveLinks : Option (List (List ℕ)) → List LinkSeen → Option (List (List ℕ)) → Type 0
GaveLinks None links after = after ≡ None
GaveLinks (Some told) links after =
    (given : List (List ℕ)) × (rest : List (List ℕ)) × (told ≡ given ++ rest) × (after ≡ Some rest) × (map Some given ≡ map whole_of links)

abbrev pub RunsGiveLinks : Type 0
RunsGiveLinks = (wanted : List Wanted) (before : StarterSeen) (links : List LinkSeen) (unstarted : List Unstarted) (after : StarterSeen)
    → HasRun wanted before links unstarted after → GaveLinks before.links links after.links

abbrev pub EachPair : {A B : Type 0} → (A → B → Type 0) → List A → List B → Type 0
EachPair P [] [] = Unit {0}
EachPair P (x ∷ xs) (y ∷ ys) = P x y × EachPair P xs ys
EachPair P _ _ = ⊥

-- the commands that a starter tells, and then these
abbrev pub then_commands : Option Commands → List (List ℕ) → List (List ℕ) → Option Commands
then_commands None started failed = None
then_commands (Some known) started failed = Some (record { started = known.started ++ started; failed = known.failed ++ failed })

-- the command of a process is that of its first request
pub record IsStartedFor (wanted : List Wanted) (link : LinkSeen) (command : List ℕ) : Type 0 where
  pub earlier : List Wanted
  pub last : Wanted
  pub serves : IsProcess earlier last link
  pub wanted_so : IsSublist (earlier ++ last ∷ []) wanted
  pub of_first : command ≡ first_command earlier last

-- the command and the key of a failed start are those of one request
pub record IsFailedFor (wanted : List Wanted) (entry : Unstarted) (command : List ℕ) : Type 0 where
  pub request : Wanted
  pub of_key : entry.key ≡ key_of request
  pub of_command : command ≡ request.command
  pub wanted_so : IsSublist (request ∷ []) wanted

-- The starts of a run: their commands are those of requests.
pub record StartsAsWanted (wanted : List Wanted) (links : List LinkSeen) (unstarted : List Unstarted) (before after : StarterSeen) : Type 0 where
  pub started : List (List ℕ)
  pub started_for : EachPair (IsStartedFor wanted) links started
  pub failed : List (List ℕ)
  pub failed_for : EachPair (IsFailedFor wanted) unstarted failed
  pub commands : after.commands ≡ then_commands before.commands started failed

abbrev pub RunsStartAsWanted : Type 0
RunsStartAsWanted = (wanted : List Wanted) (before : StarterSeen) (links : List LinkSeen) (unstarted : List Unstarted) (after : StarterSeen)
    → HasRun wanted before links unstarted after → StartsAsWanted wanted links unstarted before after

-- The counts around the failed starts rose, and follow one another between two counts of the starter.
abbrev pub FailedBetween : ℕ → List Unstarted → ℕ → Type 0
FailedBetween from [] to = from ≤ to
FailedBetween from (entry ∷ entries) to =
    (from ≤ entry.before) × Rose entry.before entry.after × (entry.before ≤ entry.after) × FailedBetween entry.after entries to

abbrev pub FailedStartsHaveCauses : Type 0
FailedStartsHaveCauses = (wanted : List Wanted) (before : StarterSeen) (links : List LinkSeen) (unstarted : List Unstarted) (after : StarterSeen)
    → HasRun wanted before links unstarted after → FailedBetween before.faults unstarted after.faults

-- a process stopped for its cause, and its write failed only where the writer did
pub record HasCause (link : LinkSeen) : Type 0 where
  pub stop : StopHasCause link.reader (length link.got) link.stop
  pub write_failed : link.write_failed ≡ true → 0 < link.writer.faults

abbrev pub StopsHaveCauses : Type 0
StopsHaveCauses = (wanted : List Wanted) (before : StarterSeen) (links : List LinkSeen) (unstarted : List Unstarted) (after : StarterSeen)
    → HasRun wanted before links unstarted after → Each HasCause links

-- Where nothing is wanted nothing is asked or started.
pub record NothingDone (before : StarterSeen) (links : List LinkSeen) (unstarted : List Unstarted) (after : StarterSeen) : Type 0 where
  pub no_links : links ≡ []
  pub none_unstarted : unstarted ≡ []
  pub untouched : after ≡ before

abbrev pub NothingWantedNothingDone : Type 0
NothingWantedNothingDone = (before : StarterSeen) (links : List LinkSeen) (unstarted : List Unstarted) (after : StarterSeen)
    → HasRun [] before links unstarted after → NothingDone before links unstarted after
