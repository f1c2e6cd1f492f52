-- What comes of waiting for an answer. This project's own.
use Rattle.std.specs.Prelude.{◌≡◌, ℕ, ◌++◌, Bool, true, false, Option, Some, None, List, [], ◌∷◌}
use Rattle.plugin_frames.specs.Frames.{Tail, Rest, Length, IsFrames}
use Rattle.plugin_frames.specs.Feeding.{IsWaiting}
use Rattle.plugin_messages.specs.PluginOf.{plugin_message_of}
use Rattle.plugin_messages.specs.declared.message.Outcome.{Outcome}
use Rattle.link_driver.specs.declared.link.Stop.{Stop}
use Rattle.link_driver.specs.declared.replies.Awaited.{Awaited}
use Rattle.link_driver.specs.declared.replies.Awaited.TheVariants as awaited
use Rattle.link_driver.specs.declared.replies.Response.{Response}
use Rattle.link_driver.specs.declared.replies.Response.TheVariants as response
use Rattle.link_driver.specs.LinkTable.{reply_outcome, is_capability, is_result}

abbrev pub stop_of : Awaited → Option Stop
stop_of awaited.Came = None
stop_of awaited.Other = None
stop_of (awaited.Stopped stop) = Some stop

abbrev pub stop_in : Response → Option Stop
stop_in (response.Reply outcome) = None
stop_in response.Other = None
stop_in (response.Stopped stop) = Some stop

-- since the bytes at the start came those of these payloads, and then less than a frame
pub record HasRead (start got : List ℕ) (payloads : List (List ℕ)) (frames : Tail) : Type 0 where
  pub gained : List ℕ
  pub rest : List ℕ
  pub waits : frames ≡ Rest rest
  pub appended : got ≡ start ++ gained
  pub read : IsFrames gained payloads frames

-- since the bytes at the start came payloads, and then a length above the limit
pub record HasMetLength (start got : List ℕ) : Type 0 where
  pub gained : List ℕ
  pub payloads : List (List ℕ)
  pub len : ℕ
  pub appended : got ≡ start ++ gained
  pub read : IsFrames gained payloads (Length len)

-- what was read, by what came of waiting
abbrev pub HasReadSo : List ℕ → List ℕ → List (List ℕ) → Tail → Awaited → Type 0
HasReadSo start got payloads frames awaited.Came = HasRead start got payloads frames
HasReadSo start got payloads frames awaited.Other = HasMetLength start got
HasReadSo start got payloads frames (awaited.Stopped stop) = HasRead start got payloads frames

-- a payload that is a reply, and what it says
pub record GivesReply (reply : List ℕ) (outcome : Outcome) : Type 0 where
  pub replies : is_result reply ≡ true
  pub says : outcome ≡ reply_outcome (plugin_message_of reply)

-- one reply, and nothing behind it
pub record IsSoleReply (payloads : List (List ℕ)) (frames : Tail) (outcome : Outcome) : Type 0 where
  pub reply : List ℕ
  pub one : payloads ≡ reply ∷ []
  pub gives : GivesReply reply outcome
  pub alone : ¬ IsWaiting frames

-- a reply, and the greeting's answer before the first one
abbrev pub AreAwaited : Bool → Outcome → List (List ℕ) → Type 0
AreAwaited true outcome payloads =
    (greeting : List ℕ) × (reply : List ℕ) × (payloads ≡ greeting ∷ reply ∷ [])
    × (is_capability (plugin_message_of greeting) ≡ true) × GivesReply reply outcome
AreAwaited false outcome payloads = (reply : List ℕ) × (payloads ≡ reply ∷ []) × GivesReply reply outcome

-- what came is what was awaited, and nothing else
pub record Replies (is_first : Bool) (outcome : Outcome) (old new : List ℕ) : Type 0 where
  pub gained : List ℕ
  pub payloads : List (List ℕ)
  pub appended : new ≡ old ++ gained
  pub read : IsFrames gained payloads (Rest [])
  pub awaited_so : AreAwaited is_first outcome payloads

-- what came is not what was awaited
abbrev pub HasNoReply : Bool → List ℕ → List ℕ → Type 0
HasNoReply is_first old new = (outcome : Outcome) → ¬ Replies is_first outcome old new

-- nor will it be, whatever follows
abbrev pub NeverReplies : Bool → List ℕ → List ℕ → Type 0
NeverReplies is_first old new = (more : List ℕ) → HasNoReply is_first old (new ++ more)
