-- Payloads that are answered in order, and those of a piece.
use Rattle.std.proofs.Common.{◌≡◌, ℕ, suc, ◌+◌, ◌<◌, ◌≤◌, Some, List, [], ◌∷◌, ◌++◌, length, take, drop, get_or, sym, ap, subst, ◌∙◌, arith}
use Rattle.std.proofs.lemmas.List.{take_more, take-append-drop, length-take-le, map_push, map-append}
use Rattle.std.proofs.Math.Seq.{drop-cons}
use Rattle.std.specs.declared.vec.Vec.{Vec}
use Rattle.swift_base.specs.Told.{then_bytes, Rose}
use Rattle.swift_base.specs.Outside.{SinkSeen}
use Rattle.plugin_frames.specs.declared.refusal.FrameFault.{FrameFault}
use Rattle.plugin_frames.specs.declared.refusal.FrameFault.TheVariants as fault
use Rattle.plugin_frames.specs.declared.refusal.Refusal.{Refusal}
use Rattle.plugin_frames.specs.declared.refusal.Refusal.TheVariants.{Memory, Fault}
use Rattle.plugin_frames.specs.Frames.{Tail, Rest, Length, IsFrames}
use Rattle.plugin_frames.specs.Cutting.{payloads_of}
use Rattle.plugin_frames.specs.Feeding.{Refuses}
use Rattle.plugin_messages.specs.declared.message.HostMessage.{HostMessage}
use Rattle.plugin_messages.specs.declared.message.PluginMessage.{PluginMessage}
use Rattle.plugin_kit.specs.declared.served.Served.{Served}
use Rattle.plugin_kit.specs.Answering.{IsFrameFor, IsAnswered, AreAnswered, FailsWithin, StopsAt, StopsAmong, held_bytes, IsFed, length_met}
use Rattle.plugin_kit.proofs.Counts.{count_of, read_on_fits}
use Rattle.plugin_kit.proofs.Replying.{answered_more}

pub one_more_answered : {A : Type 0} (given : HostMessage → PluginMessage → Type 0) (payloads : List (Vec ℕ A)) (i : ℕ) (payload : Vec ℕ A) (one two three : SinkSeen)
    → i < length payloads → payload ≡ get_or payloads i payload
    → AreAnswered given (payloads_of (take i payloads)) one two → IsAnswered given payload.items two three
    → AreAnswered given (payloads_of (take (i + 1) payloads)) one three
one_more_answered given payloads i payload one two three below is before now =
    let next : take (i + 1) payloads ≡ take i payloads ++ payload ∷ [] = take_more payloads i payload below ∙ ap (λ p. take i payloads ++ p ∷ []) (sym is) in
    let same : payloads_of (take (i + 1) payloads) ≡ payloads_of (take i payloads) ++ payload.items ∷ [] = ap payloads_of next ∙ map_push (λ v. v.items) (take i payloads) payload in
    subst (λ (ps : List (List ℕ)). AreAnswered given ps one three) (sym same) (answered_more given (payloads_of (take i payloads)) payload.items one two three before now)

pub stops_at_one : {A : Type 0} (given : HostMessage → PluginMessage → Type 0) (payloads : List (Vec ℕ A)) (i number next : ℕ) (payload : Vec ℕ A) (one two three : SinkSeen) (stop : Served)
    → i < length payloads → payload ≡ get_or payloads i payload → next ≡ number + i
    → AreAnswered given (payloads_of (take i payloads)) one two → StopsAt given payload.items next two three stop
    → StopsAmong given (payloads_of payloads) number one three stop
stops_at_one given payloads i number next payload one two three stop below is counted before stops =
    let parts : payloads ≡ take i payloads ++ payload ∷ drop (suc i) payloads =
    sym (take-append-drop i payloads) ∙ ap (λ ps. take i payloads ++ ps) (drop-cons payloads i payload below ∙ ap (λ p. p ∷ drop (suc i) payloads) (sym is)) in
    let within : i ≤ length payloads = omega arith in
    let many : length (payloads_of (take i payloads)) ≡ i = count_of (take i payloads) ∙ length-take-le i payloads within in
    record {
      answered = payloads_of (take i payloads);
      payload = payload.items;
      later = payloads_of (drop (suc i) payloads);
      split = ap payloads_of parts ∙ map-append (λ v. v.items) (take i payloads) (payload ∷ drop (suc i) payloads);
      between = two;
      done = before;
      stops = subst (λ n. StopsAt given payload.items n two three stop) (counted ∙ ap (λ n. number + n) (sym many)) stops;
    }

pub same_answered : {A : Type 0} (given : HostMessage → PluginMessage → Type 0) (items others : List (Vec ℕ A)) (one two : SinkSeen)
    → items ≡ others → AreAnswered given (payloads_of items) one two → AreAnswered given (payloads_of others) one two
same_answered given items others one two same answered = subst (λ vs. AreAnswered given (payloads_of vs) one two) same answered

pub same_stops : {A : Type 0} (given : HostMessage → PluginMessage → Type 0) (items others : List (Vec ℕ A)) (number : ℕ) (one two : SinkSeen) (stop : Served)
    → items ≡ others → StopsAmong given (payloads_of items) number one two stop → StopsAmong given (payloads_of others) number one two stop
same_stops given items others number one two stop same stops = subst (λ vs. StopsAmong given (payloads_of vs) number one two stop) same stops

-- a front of the frame was written
pub fails_within : (given : HostMessage → PluginMessage → Type 0) (payload frame bytes : List ℕ) (n : ℕ) (before after : SinkSeen)
    → IsFrameFor given payload frame → bytes ≡ frame → n < length bytes → after.held ≡ then_bytes before.held (take n bytes)
    → after.closing ≡ before.closing → Rose before.faults after.faults → FailsWithin given payload before after
fails_within given payload frame bytes n before after is same below held closing failed = record {
  reply = is.reply;
  is_reply = is.is_reply;
  cut = take n bytes;
  front = record { count = n; fewer = omega (arith, ap length (same ∙ is.whole), below); is_front = ap (take n) (same ∙ is.whole) };
  gains = record { held = held; closing = closing };
  failed = failed;
}

-- ---- a reader that refused a piece for a length

pub refused_fits : {A : Type 0} (refusal : Refusal FrameFault) (len : ℕ) (before after : Tail) (piece : List ℕ) (old new : List (Vec ℕ A))
    → length_met refusal ≡ Some len → old ≡ [] → Refuses refusal before piece old new after
    → length new + held_bytes after ≤ held_bytes before + length piece
refused_fits Memory len before after piece old new is none refuses = absurd cc
refused_fits (Fault (fault.TooLong met)) len before after piece old new is none refuses = read_on_fits before after piece old new none refuses.1
refused_fits (Fault (fault.Dead met)) len before after piece old new is none refuses =
    omega (arith, ap length (refuses.2 ∙ none), ap held_bytes refuses.1)

pub refused_fed : {A : Type 0} (refusal : Refusal FrameFault) (len : ℕ) (before after : Tail) (piece : List ℕ) (old new : List (Vec ℕ A)) (rest : List ℕ)
    → length_met refusal ≡ Some len → old ≡ [] → Refuses refusal before piece old new after → before ≡ Rest rest
    → IsFed rest piece (payloads_of new) (Some len) after
refused_fed Memory len before after piece old new rest is none refuses held = absurd cc
refused_fed (Fault (fault.TooLong met)) len before after piece old new rest is none refuses held =
    let same : met ≡ len = cc in
    let read = refuses.1 in
    let alike : read.rest ≡ rest = cc in
    let given : read.read.payloads ≡ payloads_of new = sym (read.read.appended ∙ ap (λ vs. payloads_of vs ++ read.read.payloads) none) in
    record {
      tail = after;
      frames = subst (λ (r : List ℕ). IsFrames (r ++ piece) (payloads_of new) after) alike
          (subst (λ (ps : List (List ℕ)). IsFrames (read.rest ++ piece) ps after) given read.read.frames);
      behind = refuses.0 ∙ ap Length same;
    }
refused_fed (Fault (fault.Dead met)) len before after piece old new rest is none refuses held =
    let first = refuses.0 in
    let other : Length met ≡ Rest rest = sym first ∙ held in
    absurd cc
