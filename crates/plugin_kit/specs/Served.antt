-- What a plug-in took, answered and wrote by the time at which its serving stopped, and the cause of the stop.
-- This project's own, over swift-syntax's frames and messages.
use Rattle.std.specs.Prelude.{◌≡◌, ℕ, ◌+◌, ◌<◌, ◌≤◌, List, [], ◌∷◌, ◌++◌, length, Err}
use Rattle.swift_base.specs.Told.{prepend, Rose}
use Rattle.swift_base.specs.Outside.{SourceSeen, SinkSeen, IsAtEnd}
use Rattle.plugin_frames.specs.Frames.{Tail, Rest, Length, IsFrames}
use Rattle.plugin_messages.specs.declared.message.HostMessage.{HostMessage}
use Rattle.plugin_messages.specs.declared.message.PluginMessage.{PluginMessage}
use Rattle.plugin_messages.specs.declared.message.Reason.{Reason}
use Rattle.plugin_messages.specs.HostOf.{HostOf}
use Rattle.plugin_kit.specs.declared.served.Served.{Served}
use Rattle.plugin_kit.specs.declared.served.Served.TheVariants as served
use Rattle.plugin_kit.specs.Replies.{IsReply, AreReplies, reply_frame, reply_frames, Gains, IsProperFront}

-- the status with which a plug-in ends
abbrev pub status_of : Served → ℕ
status_of (served.Ended requests) = 0
status_of (served.Cut requests) = 1
status_of served.ReadFault = 3
status_of served.WriteFault = 4
status_of served.Memory = 5
status_of (served.TooLong len) = 6
status_of (served.BadRequest place reason) = 7
status_of served.Overrun = 8

-- a plug-in that has taken more bytes reads no further
abbrev pub most_bytes : ℕ
most_bytes = 1099511627776

-- how many bytes one read gives at most
abbrev pub piece_bytes : ℕ
piece_bytes = 4096

-- What stands when serving stops: the bytes taken, the payloads that were answered and those that were not, what
-- stands behind the last whole frame, the replies, and what was written of a reply at which a write failed.
pub record Course : Type 0 where
  pub taken : List ℕ
  pub answered : List (List ℕ)
  pub unanswered : List (List ℕ)
  pub tail : Tail
  pub replies : List PluginMessage
  pub cut : List ℕ

-- only whole replies were written, and no write failed
pub record WroteWhole (sink sink' : SinkSeen) (course : Course) : Type 0 where
  pub none_cut : course.cut ≡ []
  pub steady : sink'.faults ≡ sink.faults

-- each payload was answered, and the rest behind them is less than a frame
pub record IsAnsweredUpTo (sink sink' : SinkSeen) (course : Course) (rest : List ℕ) : Type 0 where
  pub all : course.unanswered ≡ []
  pub behind : course.tail ≡ Rest rest
  pub whole : WroteWhole sink sink' course

-- the first payload that was not answered
pub record IsFirstUnanswered (course : Course) (payload : List ℕ) : Type 0 where
  pub later : List (List ℕ)
  pub first : course.unanswered ≡ payload ∷ later

-- the input came to its end behind this rest, and has nothing left
pub record EndsBehind (source source' : SourceSeen) (sink sink' : SinkSeen) (course : Course) (rest : List ℕ) (requests : ℕ) : Type 0 where
  pub answered : IsAnsweredUpTo sink sink' course rest
  pub count : requests ≡ length course.answered
  pub within : length course.taken ≤ most_bytes
  pub ended : Rose source.ends source'.ends
  pub none_left : IsAtEnd source'.left

pub record FailsToRead (source source' : SourceSeen) (sink sink' : SinkSeen) (course : Course) : Type 0 where
  pub rest : List ℕ
  pub answered : IsAnsweredUpTo sink sink' course rest
  pub within : length course.taken ≤ most_bytes
  pub failed : Rose source.faults source'.faults

-- a write failed within the first reply that is missing
pub record FailsToWrite (given : HostMessage → PluginMessage → Type 0) (sink sink' : SinkSeen) (course : Course) : Type 0 where
  pub payload : List ℕ
  pub next : IsFirstUnanswered course payload
  pub reply : PluginMessage
  pub is_reply : IsReply given payload reply
  pub cut : IsProperFront course.cut (reply_frame reply)
  pub failed : Rose sink.faults sink'.faults

pub record MeetsLength (sink sink' : SinkSeen) (course : Course) (len : ℕ) : Type 0 where
  pub all : course.unanswered ≡ []
  pub behind : course.tail ≡ Length len
  pub whole : WroteWhole sink sink' course

-- the first payload that was not answered has this number and spells no message, for this reason
pub record MeetsBadRequest (sink sink' : SinkSeen) (course : Course) (place : ℕ) (reason : Reason) : Type 0 where
  pub payload : List ℕ
  pub next : IsFirstUnanswered course payload
  pub number : place ≡ length course.answered
  pub reason_of : HostOf payload (Err reason)
  pub whole : WroteWhole sink sink' course

pub record IsOverrun (sink sink' : SinkSeen) (course : Course) : Type 0 where
  pub rest : List ℕ
  pub answered : IsAnsweredUpTo sink sink' course rest
  pub above : most_bytes < length course.taken

-- the cause of each stop
abbrev pub HasCause : (HostMessage → PluginMessage → Type 0) → SourceSeen → SourceSeen → SinkSeen → SinkSeen → Course → Served → Type 0
HasCause given source source' sink sink' course (served.Ended requests) = EndsBehind source source' sink sink' course [] requests
HasCause given source source' sink sink' course (served.Cut requests) =
    (rest : List ℕ) × (0 < length rest) × EndsBehind source source' sink sink' course rest requests
HasCause given source source' sink sink' course served.ReadFault = FailsToRead source source' sink sink' course
HasCause given source source' sink sink' course served.WriteFault = FailsToWrite given sink sink' course
HasCause given source source' sink sink' course (served.TooLong len) = MeetsLength sink sink' course len
HasCause given source source' sink sink' course (served.BadRequest place reason) = MeetsBadRequest sink sink' course place reason
HasCause given source source' sink sink' course served.Overrun = IsOverrun sink sink' course
HasCause given source source' sink sink' course served.Memory = WroteWhole sink sink' course

-- The answer tells how a stream was served. The payloads are those of the bytes taken, the first of them were
-- answered, each once and in order, and nothing but the replies was written. No byte but those of the last piece
-- was taken beyond the limit.
pub record Serves (given : HostMessage → PluginMessage → Type 0) (source source' : SourceSeen) (sink sink' : SinkSeen) (answer : Served) : Type 0 where
  pub course : Course
  pub read : source.left ≡ prepend course.taken source'.left
  pub frames : IsFrames course.taken (course.answered ++ course.unanswered) course.tail
  pub replies : AreReplies given course.answered course.replies
  pub written : Gains sink sink' (reply_frames course.replies ++ course.cut)
  pub most : length course.taken ≤ most_bytes + piece_bytes
  pub cause : HasCause given source source' sink sink' course answer
