-- What a run promises of a source, promise by promise. This project's own.
use Rattle.std.specs.Prelude.{◌≡◌, ◌⊎◌, ℕ, ◌<◌, ◌++◌, Bool, true, false, Option, List, [], ◌∷◌, All, map}
use Rattle.std.specs.List.{Contains}
use Rattle.swift_base.specs.Told.{then_bytes, Rose}
use Rattle.swift_base.specs.Outside.{SinkSeen, FilesSeen}
use Rattle.swift_base.specs.declared.place.Span.{Span}
use Rattle.swift_base.specs.declared.plugins.Plugin.{Plugin}
use Rattle.plugin_messages.specs.declared.message.Outcome.{Outcome}
use Rattle.plugin_messages.specs.declared.request.Request.{Request}
use Rattle.expansion_model.specs.Buffers.{source_buffer}
use Rattle.expansion_model.specs.BufferSites.{buffer_sites}
use Rattle.expansion_model.specs.Laws.{replaced}
use Rattle.expansion_model.specs.Spans.{spans_of}
use Rattle.link_driver.specs.Driven.{IsProcess, bytes_of}
use Rattle.link_driver.specs.declared.link.TheConstants.{MOST_BYTES}
use Rattle.link_driver.specs.Laws.{HasRepliesButLast, GaveLinks, StartsAsWanted, FailedBetween, HasCause}
use Rattle.link_driver.specs.Links.{KeySteps, LinkSeen}
use Rattle.link_driver.specs.LinkTable.{Look, IsTableOf, IsRunTable}
use Rattle.link_driver.specs.Lists.{Each}
use Rattle.link_driver.specs.Requests.{Wanted}
use Rattle.result_splice.specs.Edits.{IsEdited}
use Rattle.result_splice.specs.declared.edit.Edit.{Edit}
use Rattle.expand_top.specs.Asking.{Asking, AreDifferent, IsOneOf, asked_in, ends_by_bytes, is_limited, keys_of}
use Rattle.expand_top.specs.Meaning.{Meaning, Refused, Means, meaning_of}
use Rattle.expand_top.specs.declared.ended.Inputs.{Inputs}

-- each key of a process but its last has a reply
abbrev pub RepliesInOrder : LinkSeen → Type 0
RepliesInOrder link = (outcomes : List (Option Outcome)) → IsTableOf link outcomes → HasRepliesButLast outcomes

-- Requests of the list were asked, each at most once and no other; where no limit was met, all of them. The limit of
-- bytes is met only where the processes gave more.
pub record AsksOnce (asked : List Request) (limited by_bytes : Bool) (asking : Asking) : Type 0 where
  pub different : AreDifferent (keys_of asking)
  pub of_source : (key : KeySteps) → Contains (keys_of asking) key → (request : Request) × Contains asked request × (request.key ≡ key)
  pub all : limited ≡ false → (request : Request) → Contains asked request → Contains (keys_of asking) request.key
  pub spent : by_bytes ≡ true → MOST_BYTES < bytes_of asking.links

-- Each request that the table asks of the source was asked once, and no other was.
abbrev pub AskedOnce : Option (List ℕ) → List ℕ → List Plugin → Inputs → Asking → Type 0
AskedOnce macros name plugins inputs asking =
    let means = meaning_of macros name inputs in
    (table : Look) × IsRunTable table asking.links asking.unstarted
    × AsksOnce (asked_in name plugins means table) (is_limited name plugins means table) (ends_by_bytes name plugins means table) asking

-- A process that was asked requests of the list, all of its own module, and was given their frames.
pub record IsServedOf (plugins : List Plugin) (asked : List Request) (link : LinkSeen) : Type 0 where
  pub earlier : List Wanted
  pub last : Wanted
  pub serves : IsProcess earlier last link
  pub of_source : All (IsOneOf plugins asked) (earlier ++ last ∷ [])

-- Each process was asked for requests of its own module, and was given the greeting's frame and theirs, byte for byte.
abbrev pub LinksServe : Option (List ℕ) → List ℕ → List Plugin → Inputs → Asking → Type 0
LinksServe macros name plugins inputs asking = (table : Look) × IsRunTable table asking.links asking.unstarted
    × Each (λ link. IsServedOf plugins (asked_in name plugins (meaning_of macros name inputs) table) link × RepliesInOrder link) asking.links

-- The commands that were started are those of the modules of requests of the list.
pub record CommandsAreOf (plugins : List Plugin) (asked : List Request) (asking : Asking) : Type 0 where
  pub wanted : List Wanted
  pub of_source : All (IsOneOf plugins asked) wanted
  pub commands : StartsAsWanted wanted asking.links asking.unstarted asking.before asking.after

-- What was read of each process, and which commands were started.
pub record Starts (macros : Option (List ℕ)) (name : List ℕ) (plugins : List Plugin) (inputs : Inputs) (asking : Asking) : Type 0 where
  pub links : GaveLinks asking.before.links asking.links asking.after.links
  pub table : Look
  pub is_table : IsRunTable table asking.links asking.unstarted
  pub commands : CommandsAreOf plugins (asked_in name plugins (meaning_of macros name inputs) table) asking

-- Each stop and each failed write has its cause.
abbrev pub StopsHaveCause : List LinkSeen → Type 0
StopsHaveCause links = Each HasCause links

-- Each failed start has its cause.
abbrev pub FailedStartsHaveCause : Asking → Type 0
FailedStartsHaveCause asking = FailedBetween asking.before.faults asking.unstarted asking.after.faults

-- what is replaced of a source
abbrev pub spans_in : List ℕ → List Plugin → Meaning → List Span
spans_in name plugins (Refused output) = []
spans_in name plugins (Means source macros) = spans_of (buffer_sites macros plugins (source_buffer name source))

abbrev pub text_in : Meaning → List ℕ
text_in (Refused output) = []
text_in (Means source macros) = source.text

-- The bytes are the source's outside what is replaced: the uses that were asked, and the attributes of macros.
pub record KeepsOutside (name : List ℕ) (plugins : List Plugin) (means : Meaning) (bytes : List ℕ) : Type 0 where
  pub edits : List Edit
  pub spans : map replaced edits ≡ spans_in name plugins means
  pub kept : IsEdited (text_in means) edits bytes

-- Where the status is 0, what `out` gained is the source outside what is replaced.
abbrev pub KeepsBytes : Option (List ℕ) → List ℕ → List Plugin → Inputs → ℕ → SinkSeen → SinkSeen → Type 0
KeepsBytes macros name plugins inputs status out out_after = status ≡ 0
    → (bytes : List ℕ) × KeepsOutside name plugins (meaning_of macros name inputs) bytes × (out_after.held ≡ then_bytes out.held bytes)

-- Each status of an expansion has its cause in what failed.
pub record StatusHasCause (status : ℕ) (files files_after : FilesSeen) (out out_after err err_after : SinkSeen) : Type 0 where
  pub range : status < 5
  pub not_two : status ≡ 2 → ⊥
  pub three : status ≡ 3 → Rose files.faults files_after.faults
  pub files_fail : files.faults < files_after.faults → (status ≡ 3) ⊎ (status ≡ 4)
  pub four : status ≡ 4 → Rose out.faults out_after.faults ⊎ Rose err.faults err_after.faults
  pub out_fails : out.faults < out_after.faults → status ≡ 4
  pub err_fails : err.faults < err_after.faults → status ≡ 4
