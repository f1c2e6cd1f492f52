-- A place in a list of places that rise.
use Rattle.std.proofs.Common.{◌≡◌, refl, sym, ℕ, ◌+◌, ◌≤◌, ◌<◌, ◌==◌, ◌⊎◌, inl, inr, arith, get_or, length, List, Bool, false, true, is_ok, nat_cmp, Result, Ok, Err, Some, Decides}
use Rattle.std.specs.List.{IsAllAdjacentAnswer, list_any}
use Rattle.std.specs.List.Sorted.{IsBinarySearchResult, IsNonDecreasing}
use Rattle.std.specs.Ordering.{partial_le}
use Rattle.std.proofs.lemmas.Bool.{cases_Bool, cases_order, eq-eqb, eqb-true}
use Rattle.std.proofs.lemmas.List.{get_or_default}
use Rattle.std.proofs.lemmas.List.Folds.{list_any_at, list_any_none}
use Rattle.std.proofs.lemmas.List.Sorted.{non_decreasing_from_is_sorted, searched}

other : (a x : ℕ) → (a < x) ⊎ (x < a) → (a == x) ≡ false
other a x apart = elim (cases_Bool (a == x)) [
  | inl same ↦ let is : a ≡ x = eqb-true a x same in elim apart [
    | inl below ↦ absurd (omega (arith, is, below))
    | inr above ↦ absurd (omega (arith, is, above))
  ]
  | inr differs ↦ differs
]

-- a search by halves finds a place just where the list has it
pub searched_any : (xs : List ℕ) (x : ℕ) (r : Result ℕ ℕ) → IsBinarySearchResult (λ y. nat_cmp y x) xs r → IsNonDecreasing xs → is_ok r ≡ list_any (λ y. y == x) xs
searched_any xs x (Ok i) found up =
    let at : (i < length xs) × (get_or xs i 0 ≡ x) = searched xs x (Ok i) found (λ j k le lt. up j k 0 le lt) in
    sym (list_any_at (λ y. y == x) xs i 0 at.0 (eq-eqb (get_or xs i 0) x at.1))
searched_any xs x (Err i) found up =
    let parted : (i ≤ length xs) × ((k : ℕ) → k < i → get_or xs k 0 < x) × ((k : ℕ) → i ≤ k → k < length xs → x < get_or xs k 0) = searched xs x (Err i) found (λ j k le lt. up j k 0 le lt) in
    sym (list_any_none (λ y. y == x) xs (λ k d lt. other (get_or xs k d) x (side k d lt parted)))
  where
    side : (k d : ℕ) → k < length xs → (i ≤ length xs) × ((j : ℕ) → j < i → get_or xs j 0 < x) × ((j : ℕ) → i ≤ j → j < length xs → x < get_or xs j 0) → (get_or xs k d < x) ⊎ (x < get_or xs k d)
    side k d lt parted = elim (cases_order k i) [
      | inl same ↦ inr (omega (arith, parted.2 k (omega (arith, same)) lt, get_or_default xs k d 0 lt))
      | inr apart ↦ elim apart [
        | inl below ↦ inl (omega (arith, parted.1 k below, get_or_default xs k d 0 lt))
        | inr above ↦ inr (omega (arith, parted.2 k (omega (arith, above)) lt, get_or_default xs k d 0 lt))
      ]
    ]

true_false : true ≡ false → ⊥
true_false is = cc

-- whether numbers rise is seen at neighbours
pub told_rising : (xs : List ℕ) (r : Bool) → IsAllAdjacentAnswer (λ x y b. partial_le (λ m n. Some (nat_cmp m n)) x y ≡ b) xs r → Decides r (IsNonDecreasing xs)
told_rising xs true told = (λ _. non_decreasing_from_is_sorted xs true told, λ _. refl)
told_rising xs false told =
    let falls : (k : ℕ) × (k + 1 < length xs) × ((d : ℕ) → get_or xs (k + 1) d < get_or xs k d) = non_decreasing_from_is_sorted xs false told in
    (λ is. absurd (true_false (sym is)), λ up. absurd (omega (arith, falls.2 0, up falls.0 (falls.0 + 1) 0 (omega arith) falls.1)))
