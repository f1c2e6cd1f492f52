-- The steps of serving: a payload, the payloads of a piece, a piece. This project's own.
use Rattle.std.specs.Prelude.{◌≡◌, ℕ, ◌+◌, ◌<◌, ◌≤◌, List, [], ◌∷◌, ◌++◌, length, Option, Some, None, Err}
use Rattle.swift_base.specs.Told.{prepend, Rose}
use Rattle.swift_base.specs.Outside.{SourceSeen, SinkSeen, IsAtEnd}
use Rattle.plugin_frames.specs.declared.refusal.FrameFault.{FrameFault}
use Rattle.plugin_frames.specs.declared.refusal.FrameFault.TheVariants as fault
use Rattle.plugin_frames.specs.declared.refusal.Refusal.{Refusal}
use Rattle.plugin_frames.specs.declared.refusal.Refusal.TheVariants.{Memory, Fault}
use Rattle.plugin_frames.specs.Frames.{Tail, Rest, Length, IsFrames}
use Rattle.plugin_messages.specs.declared.message.HostMessage.{HostMessage}
use Rattle.plugin_messages.specs.declared.message.PluginMessage.{PluginMessage}
use Rattle.plugin_messages.specs.declared.message.Reason.{Reason}
use Rattle.plugin_messages.specs.HostOf.{HostOf}
use Rattle.plugin_kit.specs.declared.served.Served.{Served}
use Rattle.plugin_kit.specs.declared.served.Served.TheVariants as served
use Rattle.plugin_kit.specs.declared.serving.Progress.{Progress}
use Rattle.plugin_kit.specs.Replies.{IsReply, AreReplies, reply_frame, reply_frames, Gains, IsProperFront}
use Rattle.plugin_kit.specs.Served.{most_bytes, piece_bytes}

-- the frame of a reply to the message
pub record IsFrameOfReply (given : HostMessage → PluginMessage → Type 0) (asked : HostMessage) (frame : List ℕ) : Type 0 where
  pub reply : PluginMessage
  pub is_given : given asked reply
  pub whole : frame ≡ reply_frame reply

-- the frame of a reply to the message that the payload spells
pub record IsFrameFor (given : HostMessage → PluginMessage → Type 0) (payload frame : List ℕ) : Type 0 where
  pub reply : PluginMessage
  pub is_reply : IsReply given payload reply
  pub whole : frame ≡ reply_frame reply

-- why the payload of this number has none
abbrev pub HasNoFrame : List ℕ → ℕ → Served → Type 0
HasNoFrame payload number (served.Ended requests) = ⊥
HasNoFrame payload number (served.Cut requests) = ⊥
HasNoFrame payload number served.ReadFault = ⊥
HasNoFrame payload number served.WriteFault = ⊥
HasNoFrame payload number (served.TooLong len) = ⊥
HasNoFrame payload number (served.BadRequest place reason) = (place ≡ number) × HostOf payload (Err reason)
HasNoFrame payload number served.Overrun = ⊥
HasNoFrame payload number served.Memory = Unit {0}

-- the writer took these bytes and no write failed
pub record Writes (before after : SinkSeen) (bytes : List ℕ) : Type 0 where
  pub gains : Gains before after bytes
  pub steady : after.faults ≡ before.faults

-- the request of a payload was answered
pub record IsAnswered (given : HostMessage → PluginMessage → Type 0) (payload : List ℕ) (before after : SinkSeen) : Type 0 where
  pub reply : PluginMessage
  pub is_reply : IsReply given payload reply
  pub writes : Writes before after (reply_frame reply)

-- those of several payloads were
pub record AreAnswered (given : HostMessage → PluginMessage → Type 0) (payloads : List (List ℕ)) (before after : SinkSeen) : Type 0 where
  pub replies : List PluginMessage
  pub are_replies : AreReplies given payloads replies
  pub writes : Writes before after (reply_frames replies)

-- a write failed within the reply
pub record FailsWithin (given : HostMessage → PluginMessage → Type 0) (payload : List ℕ) (before after : SinkSeen) : Type 0 where
  pub reply : PluginMessage
  pub is_reply : IsReply given payload reply
  pub cut : List ℕ
  pub front : IsProperFront cut (reply_frame reply)
  pub gains : Gains before after cut
  pub failed : Rose before.faults after.faults

-- the payload of this number spells no message
pub record IsNoRequest (payload : List ℕ) (number : ℕ) (before after : SinkSeen) (place : ℕ) (reason : Reason) : Type 0 where
  pub numbered : place ≡ number
  pub reason_of : HostOf payload (Err reason)
  pub writes : Writes before after []

-- why the request of the payload of this number was not answered
abbrev pub StopsAt : (HostMessage → PluginMessage → Type 0) → List ℕ → ℕ → SinkSeen → SinkSeen → Served → Type 0
StopsAt given payload number before after (served.Ended requests) = ⊥
StopsAt given payload number before after (served.Cut requests) = ⊥
StopsAt given payload number before after served.ReadFault = ⊥
StopsAt given payload number before after served.WriteFault = FailsWithin given payload before after
StopsAt given payload number before after (served.TooLong len) = ⊥
StopsAt given payload number before after (served.BadRequest place reason) = IsNoRequest payload number before after place reason
StopsAt given payload number before after served.Overrun = ⊥
StopsAt given payload number before after served.Memory = Writes before after []

-- why those of several payloads, numbered from this number on, were not all answered
pub record StopsAmong (given : HostMessage → PluginMessage → Type 0) (payloads : List (List ℕ)) (number : ℕ) (before after : SinkSeen) (stop : Served) : Type 0 where
  pub answered : List (List ℕ)
  pub payload : List ℕ
  pub later : List (List ℕ)
  pub split : payloads ≡ answered ++ payload ∷ later
  pub between : SinkSeen
  pub done : AreAnswered given answered before between
  pub stops : StopsAt given payload (number + length answered) between after stop

-- how many bytes a reader of frames holds
abbrev pub held_bytes : Tail → ℕ
held_bytes (Rest rest) = length rest
held_bytes (Length len) = 0

-- the length above the limit for which a reader of frames refused a piece
abbrev pub length_met : Refusal FrameFault → Option ℕ
length_met Memory = None
length_met (Fault (fault.TooLong len)) = Some len
length_met (Fault (fault.Dead len)) = Some len

-- what stands behind the payloads that a piece completes: a length above the limit, or what the reader holds then
abbrev pub IsBehind : Option ℕ → Tail → Tail → Type 0
IsBehind (Some len) held tail = tail ≡ Length len
IsBehind None held tail = (rest : List ℕ) × (held ≡ Rest rest) × (tail ≡ Rest rest)

-- a reader that held the rest was fed the piece
pub record IsFed (rest piece : List ℕ) (payloads : List (List ℕ)) (too_long : Option ℕ) (held : Tail) : Type 0 where
  pub tail : Tail
  pub frames : IsFrames (rest ++ piece) payloads tail
  pub behind : IsBehind too_long held tail

-- how far the serving of a stream has come: each payload of the bytes taken was answered
pub record Reached (given : HostMessage → PluginMessage → Type 0) (source source' : SourceSeen) (sink sink' : SinkSeen) (held : Tail) (progress : Progress) : Type 0 where
  pub taken : List ℕ
  pub payloads : List (List ℕ)
  pub rest : List ℕ
  pub read : source.left ≡ prepend taken source'.left
  pub faults : source'.faults ≡ source.faults
  pub ends : source'.ends ≡ source.ends
  pub frames : IsFrames taken payloads (Rest rest)
  pub holds : held ≡ Rest rest
  pub answered : AreAnswered given payloads sink sink'
  pub count_taken : progress.taken ≡ length taken
  pub count_requests : progress.requests ≡ length payloads
  pub most : length taken ≤ most_bytes + piece_bytes

-- a piece was read
pub record Reads (before after : SourceSeen) (piece : List ℕ) : Type 0 where
  pub left : before.left ≡ prepend piece after.left
  pub faults : after.faults ≡ before.faults
  pub ends : after.ends ≡ before.ends

-- the input ended, a read failed, or too much was taken
pub record MeetsEnd (before after : SourceSeen) (progress : Progress) (requests : ℕ) : Type 0 where
  pub left : after.left ≡ before.left
  pub ended : Rose before.ends after.ends
  pub none_left : IsAtEnd before.left
  pub count : requests ≡ progress.requests
  pub within : progress.taken ≤ most_bytes

pub record MeetsReadFault (before after : SourceSeen) (progress : Progress) : Type 0 where
  pub left : after.left ≡ before.left
  pub failed : Rose before.faults after.faults
  pub within : progress.taken ≤ most_bytes

pub record HasTakenTooMuch (before after : SourceSeen) (progress : Progress) : Type 0 where
  pub left : after.left ≡ before.left
  pub above : most_bytes < progress.taken

-- how the input ended, the reader of frames holding this
abbrev pub IsEnd : Tail → ℕ → Served → Type 0
IsEnd held requests (served.Ended count) = (held_bytes held ≡ 0) × (count ≡ requests)
IsEnd held requests (served.Cut count) = (0 < held_bytes held) × (count ≡ requests)
IsEnd held requests served.ReadFault = ⊥
IsEnd held requests served.WriteFault = ⊥
IsEnd held requests (served.TooLong len) = ⊥
IsEnd held requests (served.BadRequest place reason) = ⊥
IsEnd held requests served.Overrun = ⊥
IsEnd held requests served.Memory = ⊥

-- why no piece was read, the reader of frames holding this
abbrev pub StopsReading : SourceSeen → SourceSeen → Tail → Progress → Served → Type 0
StopsReading before after held progress (served.Ended requests) = (held_bytes held ≡ 0) × MeetsEnd before after progress requests
StopsReading before after held progress (served.Cut requests) = (0 < held_bytes held) × MeetsEnd before after progress requests
StopsReading before after held progress served.ReadFault = MeetsReadFault before after progress
StopsReading before after held progress served.WriteFault = ⊥
StopsReading before after held progress (served.TooLong len) = ⊥
StopsReading before after held progress (served.BadRequest place reason) = ⊥
StopsReading before after held progress served.Overrun = HasTakenTooMuch before after progress
StopsReading before after held progress served.Memory = ⊥
