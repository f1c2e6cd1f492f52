-- A numeral is its number's `decimal`, and digits before other bytes are told apart from them.
use Rattle.std.proofs.Common.{◌≡◌, ℕ, ◌+◌, ◌-◌, ◌<◌, ◌≤◌, ◌^◌, List, [], ◌∷◌, ◌++◌, map, zero, suc, refl, sym, ◌∙◌, ap, subst, arith}
use Rattle.std.specs.Fmt.{decimal, digits}
use Rattle.std.specs.List.{AllByRecursion}
use Rattle.std.specs.Int.Digits.{digits_of, number_from_digits, AllBelowBase}
use Rattle.std.proofs.lemmas.Fmt.{decimal-digits_of}
use Rattle.std.proofs.lemmas.Int.Digits.{all_below_base_digits_of, number_digits_of}
use Rattle.unique_names.specs.Names.{numeral}

pub numeral_is_decimal : (n : ℕ) → n < 2 ^ 64 → numeral n ≡ decimal n
unfolding numeral digits
numeral_is_decimal zero small = refl
numeral_is_decimal (suc n) small = sym (decimal-digits_of (suc n) (omega arith) small)

pub record IsDigit (c : ℕ) : Type 0 where
  pub above : 48 ≤ c
  pub below : c < 58

abbrev pub AllDigits : List ℕ → Type 0
AllDigits = AllByRecursion IsDigit

glyphs_are_digits : (ds : List ℕ) → AllBelowBase 10 ds → AllDigits (map (λ d. 48 + d) ds)
glyphs_are_digits [] small = tt
glyphs_are_digits (d ∷ ds) small = (record { above = omega arith; below = omega (arith, small.0) }, glyphs_are_digits ds small.1)

pub numeral_is_digits : (n : ℕ) → AllDigits (numeral n)
unfolding numeral
numeral_is_digits zero = (record { above = omega arith; below = omega arith }, tt)
numeral_is_digits (suc n) = glyphs_are_digits (digits_of 10 (suc n)) (all_below_base_digits_of 10 (suc n) (omega arith))

value_of : List ℕ → ℕ
value_of text = number_from_digits 10 (map (λ c. c - 48) text)

glyphs_back : (ds : List ℕ) → map (λ c. c - 48) (map (λ d. 48 + d) ds) ≡ ds
glyphs_back [] = refl
glyphs_back (d ∷ ds) = let e : (48 + d) - 48 ≡ d = omega arith in λ i. e i ∷ glyphs_back ds i

numeral_value : (n : ℕ) → value_of (numeral n) ≡ n
unfolding numeral value_of
numeral_value zero = refl
numeral_value (suc n) = ap (number_from_digits 10) (glyphs_back (digits_of 10 (suc n))) ∙ number_digits_of 10 (suc n) (omega arith)

pub one_number : (m n : ℕ) → numeral m ≡ numeral n → m ≡ n
one_number m n e = sym (numeral_value m) ∙ (ap value_of e ∙ numeral_value n)

pub numeral_is_some : (n : ℕ) → [] ≡ numeral n → ⊥
unfolding numeral value_of
numeral_is_some zero e = cc
numeral_is_some (suc n) e = let none : 0 ≡ suc n = ap value_of e ∙ numeral_value (suc n) in omega arith

-- digits up to the first byte that is none
pub record SplitAlike (xs ys x y : List ℕ) : Type 0 where
  pub digits : xs ≡ ys
  pub rest : x ≡ y

pub digits_end_alike : (xs ys : List ℕ) (c d : ℕ) (x y : List ℕ) → AllDigits xs → AllDigits ys → ¬ IsDigit c → ¬ IsDigit d → xs ++ c ∷ x ≡ ys ++ d ∷ y → SplitAlike xs ys (c ∷ x) (d ∷ y)
digits_end_alike [] [] c d x y p q nc nd e = record { digits = refl; rest = e }
digits_end_alike [] (b ∷ ys) c d x y p q nc nd e = let same : c ≡ b = cc in absurd (nc (subst IsDigit (sym same) q.0))
digits_end_alike (a ∷ xs) [] c d x y p q nc nd e = let same : a ≡ d = cc in absurd (nd (subst IsDigit same p.0))
digits_end_alike (a ∷ xs) (b ∷ ys) c d x y p q nc nd e =
    let same : a ≡ b = cc in
    let more : xs ++ c ∷ x ≡ ys ++ d ∷ y = cc in
    let s = digits_end_alike xs ys c d x y p.1 q.1 nc nd more in
    record { digits = λ i. same i ∷ s.digits i; rest = s.rest }
