-- Columns are bounded by the text.
use Rattle.std.proofs.Common.{ℕ, ◌+◌, ◌≤◌, ◌==◌, not, List, take, arith}
use Rattle.std.proofs.lemmas.List.{length-take}
use Rattle.std.proofs.lemmas.List.Sums.{suffix_len-le-length}
use Rattle.swift_base.specs.Lines.{column_behind, line_feed}

pub column_small : (text : List ℕ) (at : ℕ) → column_behind (take at text) ≤ at + 1
column_small text at = omega (arith, suffix_len-le-length (λ b. not (b == line_feed)) (take at text), length-take at text)
