-- Two tests that decide one fact are the same.
use Rattle.std.proofs.Common.{◌≡◌, Bool, true, false, refl, sym, Decides}

pub same_test : {P : Type 0} (a b : Bool) → Decides a P → Decides b P → a ≡ b
same_test true true one other = refl
same_test true false one other = let p = one.0 refl in sym (other.1 p)
same_test false true one other = let p = other.0 refl in one.1 p
same_test false false one other = refl
