-- What a writer gains by one reply after another.
use Rattle.std.proofs.Common.{◌≡◌, ℕ, Option, Some, None, List, [], ◌∷◌, ◌++◌, map, refl, sym, ap, subst, ◌∙◌, append-nil}
use Rattle.std.specs.List.{AllZip}
use Rattle.std.proofs.lemmas.List.{map-append}
use Rattle.std.proofs.lemmas.Grind.{flat_map-append}
use Rattle.swift_base.specs.Told.{then_bytes}
use Rattle.swift_base.specs.Outside.{SinkSeen}
use Rattle.swift_base.proofs.Writing.{then_bytes-then_bytes}
use Rattle.plugin_frames.specs.Frames.{frame_of, frames_of}
use Rattle.plugin_messages.specs.declared.message.HostMessage.{HostMessage}
use Rattle.plugin_messages.specs.declared.message.PluginMessage.{PluginMessage}
use Rattle.plugin_messages.specs.ReplyBytes.{plugin_payload_of}
use Rattle.plugin_kit.specs.Replies.{IsReply, AreReplies, reply_frame, reply_frames, Gains}
use Rattle.plugin_kit.specs.Answering.{Writes, IsAnswered, AreAnswered}

then_nothing : (held : Option (List ℕ)) → held ≡ then_bytes held []
then_nothing None = refl
then_nothing (Some held) = ap Some (sym (append-nil held))

pub gains_nothing : (sink : SinkSeen) → Gains sink sink []
gains_nothing sink = record { held = then_nothing sink.held; closing = refl }

pub writes_nothing : (sink : SinkSeen) → Writes sink sink []
writes_nothing sink = record { gains = gains_nothing sink; steady = refl }

pub gains_then : (one two three : SinkSeen) (front back : List ℕ) → Gains one two front → Gains two three back → Gains one three (front ++ back)
gains_then one two three front back a b = record {
  held = b.held ∙ ap (λ h. then_bytes h back) a.held ∙ then_bytes-then_bytes one.held front back;
  closing = b.closing ∙ a.closing;
}

pub writes_then : (one two three : SinkSeen) (front back : List ℕ) → Writes one two front → Writes two three back → Writes one three (front ++ back)
writes_then one two three front back a b = record {
  gains = gains_then one two three front back a.gains b.gains;
  steady = b.steady ∙ a.steady;
}

zip-append : {A B : Type 0} (R : A → B → Type 0) (xs : List A) (ys : List B) (more : List A) (others : List B)
    → AllZip R xs ys → AllZip R more others → AllZip R (xs ++ more) (ys ++ others)
zip-append R [] [] more others a b = b
zip-append R [] (y ∷ ys) more others a b = absurd a
zip-append R (x ∷ xs) [] more others a b = absurd a
zip-append R (x ∷ xs) (y ∷ ys) more others a b = (a.0, zip-append R xs ys more others a.1 b)

replies-append : (given : HostMessage → PluginMessage → Type 0) (payloads later : List (List ℕ)) (replies others : List PluginMessage)
    → AreReplies given payloads replies → AreReplies given later others → AreReplies given (payloads ++ later) (replies ++ others)
unfolding AreReplies
replies-append given payloads later replies others a b = zip-append (IsReply given) payloads replies later others a b

frames-append : (replies others : List PluginMessage) → reply_frames (replies ++ others) ≡ reply_frames replies ++ reply_frames others
unfolding reply_frames
frames-append replies others =
    ap frames_of (map-append plugin_payload_of replies others) ∙ flat_map-append frame_of (map plugin_payload_of replies) (map plugin_payload_of others)

pub answered_none : (given : HostMessage → PluginMessage → Type 0) (sink : SinkSeen) → AreAnswered given [] sink sink
unfolding AreReplies reply_frames
answered_none given sink = record { replies = []; are_replies = tt; writes = writes_nothing sink }

pub answered_then : (given : HostMessage → PluginMessage → Type 0) (payloads later : List (List ℕ)) (one two three : SinkSeen)
    → AreAnswered given payloads one two → AreAnswered given later two three → AreAnswered given (payloads ++ later) one three
answered_then given payloads later one two three a b = record {
  replies = a.replies ++ b.replies;
  are_replies = replies-append given payloads later a.replies b.replies a.are_replies b.are_replies;
  writes = subst (Writes one three) (sym (frames-append a.replies b.replies)) (writes_then one two three _ _ a.writes b.writes);
}

pub answered_one : (given : HostMessage → PluginMessage → Type 0) (payload : List ℕ) (one two : SinkSeen)
    → IsAnswered given payload one two → AreAnswered given (payload ∷ []) one two
unfolding AreReplies reply_frames reply_frame
answered_one given payload one two a = record {
  replies = a.reply ∷ [];
  are_replies = (a.is_reply, tt);
  writes = subst (Writes one two) (sym (append-nil (frame_of (plugin_payload_of a.reply)))) a.writes;
}

pub answered_more : (given : HostMessage → PluginMessage → Type 0) (payloads : List (List ℕ)) (payload : List ℕ) (one two three : SinkSeen)
    → AreAnswered given payloads one two → IsAnswered given payload two three → AreAnswered given (payloads ++ payload ∷ []) one three
answered_more given payloads payload one two three a b = answered_then given payloads (payload ∷ []) one two three a (answered_one given payload two three b)
