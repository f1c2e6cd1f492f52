-- The bytes since the last line feed, one byte further.
use Rattle.std.proofs.Common.{◌≡◌, ℕ, ◌+◌, ◌==◌, cond, List, [], ◌∷◌, ◌++◌, arith, inl, inr}
use Rattle.std.proofs.lemmas.List.{reverse-append}
use Rattle.std.proofs.lemmas.Bool.{cases_eq}
use Rattle.std.proofs.lemmas.Bool.Decides.{nat_tests}
use Rattle.swift_base.specs.Lines.{line_feed, column_behind}

pub column_behind-one_more : (before : List ℕ) (b : ℕ) → column_behind (before ++ b ∷ []) ≡ cond (b == line_feed) 1 (column_behind before + 1)
column_behind-one_more before b = elim (cases_eq b line_feed) [
  | inl is_feed ↦ rw (reverse-append before (b ∷ [])) (grind (arith, nat_tests))
  | inr other ↦ rw (reverse-append before (b ∷ [])) (grind (arith, nat_tests))
]
