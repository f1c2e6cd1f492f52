-- So many elements, and then as many as follow, where any do.
use Rattle.std.proofs.Common.{◌≡◌, refl, ℕ, zero, suc, ◌+◌, ◌-◌, ◌<◌, arith}

abbrev pub further : ℕ → ℕ → ℕ
further count zero = 0
further count (suc n) = suc (count + n)

pub further_some : (count n : ℕ) → 0 < n → count + n ≡ further count n
further_some count zero some = absurd (omega (arith, some))
further_some count (suc n) some = omega arith

pub further_further : (a b n : ℕ) → further a (further b n) ≡ further (a + b) n
further_further a b zero = refl
further_further a b (suc n) = omega arith

pub further_zero : (n : ℕ) → further 0 n ≡ n
further_zero zero = refl
further_zero (suc n) = omega arith

pub further_less : (count n : ℕ) → further count n - count ≡ n
further_less count zero = omega arith
further_less count (suc n) = omega arith
