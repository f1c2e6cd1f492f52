-- What a writer holds after several pieces.
use Rattle.std.proofs.Common.{◌≡◌, ◌==◌, false, [], ◌∷◌, ℕ, ◌<◌, Option, Some, None, List, ◌++◌, length, take, drop, refl, sym, ◌∙◌, ap, append_assoc, arith, length-append, take-append-drop}
use Rattle.std.proofs.Math.Seq.{take-append_seam}
use Rattle.swift_base.specs.Told.{then_bytes}

pub then_bytes-then_bytes : (held : Option (List ℕ)) (a b : List ℕ) → then_bytes (then_bytes held a) b ≡ then_bytes held (a ++ b)
then_bytes-then_bytes None a b = refl
then_bytes-then_bytes (Some held) a b = ap Some (append_assoc held a b)

-- one more piece of what is to be written
pub one_more : (start before now : Option (List ℕ)) (done rest bytes : List ℕ) (n : ℕ) → done ++ rest ≡ bytes → before ≡ then_bytes start done → now ≡ then_bytes before (take n rest) → (more : List ℕ) × (more ++ drop n rest ≡ bytes) × (now ≡ then_bytes start more)
one_more start before now done rest bytes n whole held piece = (
  done ++ take n rest,
  append_assoc done (take n rest) (drop n rest) ∙ ap (λ (r : List ℕ). done ++ r) (take-append-drop n rest) ∙ whole,
  piece ∙ ap (λ h. then_bytes h (take n rest)) held ∙ then_bytes-then_bytes start done (take n rest),
)

-- what was written before a fault is a proper front
pub proper_front : (start now : Option (List ℕ)) (done rest bytes : List ℕ) → done ++ rest ≡ bytes → now ≡ then_bytes start done → 0 < length rest → (n : ℕ) × (n < length bytes) × (now ≡ then_bytes start (take n bytes))
proper_front start now done rest bytes whole held some = (
  length done,
  omega (arith, ap length whole, length-append done rest),
  held ∙ ap (λ d. then_bytes start d) (sym (take-append_seam done rest) ∙ ap (λ (b : List ℕ). take (length done) b) whole),
)

pub some_left : (rest : List ℕ) → false ≡ (length rest == 0) → 0 < length rest
some_left [] is = absurd (cc)
some_left (x ∷ rest) is = omega arith

pub none_written : (done rest bytes : List ℕ) → done ++ rest ≡ bytes → 0 < length rest → bytes ≡ [] → ⊥
none_written done rest bytes whole some none = omega (arith, ap length whole, ap length none, length-append done rest)
