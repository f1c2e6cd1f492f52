-- A list that is a front and a back, told by its parts.
use Rattle.std.proofs.Common.{◌≡◌, ◌∙◌, ℕ, List, ◌++◌, length, take, drop, ap, sym}
use Rattle.std.proofs.lemmas.List.{take-append-drop}
use Rattle.std.proofs.Math.Seq.{drop-append_seam, take-append_seam}

pub joined : (name front back : List ℕ) → take (length front) name ≡ front → drop (length front) name ≡ back → name ≡ front ++ back
joined name front back first last = sym (take-append-drop (length front) name) ∙ (λ i. first i ++ last i)

pub front_of : (name front back : List ℕ) → name ≡ front ++ back → take (length front) name ≡ front
front_of name front back is = ap (take (length front)) is ∙ take-append_seam front back

pub back_of : (name front back : List ℕ) → name ≡ front ++ back → drop (length front) name ≡ back
back_of name front back is = ap (drop (length front)) is ∙ drop-append_seam front back
