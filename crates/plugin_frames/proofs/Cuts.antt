-- What cutting keeps: whatever is still to be read completes the whole.
use Rattle.std.proofs.Common.{◌≡◌, ℕ, List, [], ◌∷◌, ◌++◌, ap, subst, ◌∙◌, append_assoc}
use Rattle.std.proofs.lemmas.List.{append-nil, map_push}
use Rattle.std.specs.declared.vec.Vec.{Vec}
use Rattle.plugin_frames.specs.Frames.{BeginsWithFrame, BeginsTooLong, IsUnfinished, Tail, Rest, Length, IsFrames, unfinished, too_long, frame}
use Rattle.plugin_frames.specs.Cutting.{payloads_of}

pub record IsCut (bytes rest : List ℕ) (payloads : List (List ℕ)) : Type 0 where
  pub completes : (later : List (List ℕ)) (tail : Tail) → IsFrames rest later tail → IsFrames bytes (payloads ++ later) tail

pub IsCut-none : (bytes : List ℕ) → IsCut bytes bytes []
IsCut-none bytes = record { completes = λ later tail f. f }

pub IsCut-more : {A : Type 0} (bytes rest payload more : List ℕ) (old new : List (Vec ℕ A)) (taken : Vec ℕ A)
    → IsCut bytes rest (payloads_of old) → BeginsWithFrame rest payload more → taken.items ≡ payload → new ≡ old ++ taken ∷ [] → IsCut bytes more (payloads_of new)
IsCut-more bytes rest payload more old new taken cut begins is pushed =
    let now : payloads_of new ≡ payloads_of old ++ payload ∷ [] = ap payloads_of pushed ∙ map_push (λ v. v.items) old taken ∙ ap (λ p. payloads_of old ++ p ∷ []) is in
    record { completes = λ later tail f. rw (now, append_assoc) (cut.completes (payload ∷ later) tail (frame rest payload more later tail begins f)) }

whole : (bytes rest : List ℕ) (payloads : List (List ℕ)) (tail : Tail) → IsCut bytes rest payloads → IsFrames rest [] tail → IsFrames bytes payloads tail
whole bytes rest payloads tail cut f =
    let P : List (List ℕ) → Type 0 = λ ps. IsFrames bytes ps tail in
    subst P (append-nil payloads) (cut.completes [] tail f)

pub IsCut-rest : (bytes rest : List ℕ) (payloads : List (List ℕ)) → IsCut bytes rest payloads → IsUnfinished rest → IsFrames bytes payloads (Rest rest)
IsCut-rest bytes rest payloads cut u = whole bytes rest payloads (Rest rest) cut (unfinished rest u)

pub IsCut-length : (bytes rest : List ℕ) (payloads : List (List ℕ)) (len : ℕ) → IsCut bytes rest payloads → BeginsTooLong rest len → IsFrames bytes payloads (Length len)
IsCut-length bytes rest payloads len cut b = whole bytes rest payloads (Length len) cut (too_long rest len b)
