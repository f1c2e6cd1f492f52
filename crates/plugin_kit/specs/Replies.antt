-- The replies to requests, and the bytes that a plug-in writes for them.
-- This project's own, over swift-syntax's frames and messages.
use Rattle.std.specs.Prelude.{◌≡◌, ℕ, ◌<◌, List, length, take, map, Ok}
use Rattle.std.specs.List.{AllZip}
use Rattle.swift_base.specs.Told.{then_bytes}
use Rattle.swift_base.specs.Outside.{SinkSeen}
use Rattle.plugin_frames.specs.Frames.{frame_of, frames_of}
use Rattle.plugin_messages.specs.declared.message.HostMessage.{HostMessage}
use Rattle.plugin_messages.specs.declared.message.PluginMessage.{PluginMessage}
use Rattle.plugin_messages.specs.HostOf.{HostOf}
use Rattle.plugin_messages.specs.ReplyBytes.{plugin_payload_of}

-- the payload spells a message, to which the reply is given
pub record IsReply (given : HostMessage → PluginMessage → Type 0) (payload : List ℕ) (reply : PluginMessage) : Type 0 where
  pub asked : HostMessage
  pub spells : HostOf payload (Ok asked)
  pub is_given : given asked reply

-- one reply to each of the payloads, in their order
unfoldable pub AreReplies : (HostMessage → PluginMessage → Type 0) → List (List ℕ) → List PluginMessage → Type 0
AreReplies given payloads replies = AllZip (IsReply given) payloads replies

-- the frame of a reply
unfoldable pub reply_frame : PluginMessage → List ℕ
reply_frame reply = frame_of (plugin_payload_of reply)

-- the frames of replies, one after another
unfoldable pub reply_frames : List PluginMessage → List ℕ
reply_frames replies = frames_of (map plugin_payload_of replies)

-- the writer took these bytes more, and its closing is as it was
pub record Gains (before after : SinkSeen) (bytes : List ℕ) : Type 0 where
  pub held : after.held ≡ then_bytes before.held bytes
  pub closing : after.closing ≡ before.closing

-- a front of the bytes, and not all of them
pub record IsProperFront (front bytes : List ℕ) : Type 0 where
  pub count : ℕ
  pub fewer : count < length bytes
  pub is_front : front ≡ take count bytes
