-- How many payloads bytes have at most.
use Rattle.std.proofs.Common.{◌≡◌, ℕ, ◌+◌, ◌≤◌, List, [], ◌∷◌, ◌++◌, length, suc, refl, ap, sym, ◌∙◌, arith, length-append}
use Rattle.std.specs.declared.vec.Vec.{Vec}
use Rattle.plugin_frames.specs.Frames.{Tail, IsFrames, unfinished, too_long, frame}
use Rattle.plugin_frames.specs.Cutting.{payloads_of}
use Rattle.plugin_frames.specs.Feeding.{ReadsOn}
use Rattle.plugin_kit.specs.Answering.{held_bytes}

-- each has a byte at least, and none of those that are held
pub frames_fit : (bytes : List ℕ) (payloads : List (List ℕ)) (tail : Tail) → IsFrames bytes payloads tail → length payloads + held_bytes tail ≤ length bytes
frames_fit bytes payloads tail (unfinished _ u) = omega arith
frames_fit bytes payloads tail (too_long _ len b) = omega arith
frames_fit bytes payloads tail (frame _ payload more later _ b f) =
    let rest : length later + held_bytes tail ≤ length more = frames_fit more later tail f in
    omega (arith, ap length b.begins.whole, b.begins.eight, length-append b.begins.head (payload ++ more), length-append payload more)

pub count_of : {A : Type 0} (payloads : List (Vec ℕ A)) → length (payloads_of payloads) ≡ length payloads
count_of [] = refl
count_of (payload ∷ payloads) = ap suc (count_of payloads)

pub read_on_fits : {A : Type 0} (before after : Tail) (piece : List ℕ) (old new : List (Vec ℕ A)) → old ≡ [] → ReadsOn before piece old new after
    → length new + held_bytes after ≤ held_bytes before + length piece
read_on_fits before after piece old new none read =
    let fits = frames_fit (read.rest ++ piece) read.read.payloads after read.read.frames in
    let same : length new ≡ length read.read.payloads =
    sym (count_of new) ∙ ap length read.read.appended ∙ ap (λ vs. length (payloads_of vs ++ read.read.payloads)) none in
    omega (arith, same, fits, ap held_bytes read.held, length-append read.rest piece)
