-- A stable sort by rank puts edits in order.
use Rattle.std.proofs.Common.{◌≡◌, ℕ, zero, suc, ◌<◌, ◌≤◌, Bool, true, false, cond, nat_lt, List, [], ◌∷◌, length, get_or, filter, nat_cmp, is_lt, refl, sym, ap, ◌∙◌, arith, inl, inr, suc-le-suc, zero-le, All, IsPermutation}
use Rattle.std.proofs.lemmas.Bool.{cond-true, cond-false, cases_Bool}
use Rattle.std.proofs.lemmas.Bool.Decides.{nat_tests}
use Rattle.std.proofs.lemmas.List.Elements.{All-cons, All-head, All-tail}
use Rattle.std.proofs.lemmas.List.Sorted.{IsPermutation-refl, IsPermutation-cons, IsPermutation-sym, IsPermutation-trans, IsPermutation-middle}
use Rattle.std.specs.List.Sorted.{ties, IsNonDecreasingBy, IsStableByKey}
use Rattle.result_splice.specs.declared.edit.Edit.{Edit}
use Rattle.result_splice.specs.Edits.{rank, put_in, ordered}

below-true : (m n : ℕ) → nat_lt m n ≡ true → m < n
below-true m n h = grind (arith, nat_tests)

below-false : (m n : ℕ) → nat_lt m n ≡ false → n ≤ m
below-false m n h = grind (arith, nat_tests)

pub put_in-past : (edit other : Edit) (others : List Edit) → nat_lt (rank other) (rank edit) ≡ true → put_in edit (other ∷ others) ≡ other ∷ put_in edit others
put_in-past edit other others h = cond-true _ _ _ h

pub put_in-here : (edit other : Edit) (others : List Edit) → nat_lt (rank other) (rank edit) ≡ false → put_in edit (other ∷ others) ≡ edit ∷ other ∷ others
put_in-here edit other others h = cond-false _ _ _ h

abbrev same_rank : Edit → Edit → Bool
same_rank = ties (λ one other. is_lt (nat_cmp (rank one) (rank other)))

ties_at : (m n : ℕ) → (ties (λ x y. is_lt (nat_cmp x y)) m n ≡ true → m ≡ n) × (m ≡ n → ties (λ x y. is_lt (nat_cmp x y)) m n ≡ true)
ties_at m n = (λ h. grind (arith, nat_tests), λ h. grind (arith, nat_tests))

same_rank-true : (one other : Edit) → same_rank one other ≡ true → rank one ≡ rank other
same_rank-true one other = (ties_at (rank one) (rank other)).0

same_rank_from : (one other : Edit) → rank one ≡ rank other → same_rank one other ≡ true
same_rank_from one other = (ties_at (rank one) (rank other)).1

filter-kept : (p : Edit → Bool) (y : Edit) (ys : List Edit) → p y ≡ true → filter p (y ∷ ys) ≡ y ∷ filter p ys
filter-kept p y ys h = cond-true _ _ _ h

filter-dropped : (p : Edit → Bool) (y : Edit) (ys : List Edit) → p y ≡ false → filter p (y ∷ ys) ≡ filter p ys
filter-dropped p y ys h = cond-false _ _ _ h

filter-put_in : (x edit : Edit) (others : List Edit) → filter (same_rank x) (put_in edit others) ≡ filter (same_rank x) (edit ∷ others)
filter-put_in x edit [] = refl
filter-put_in x edit (d ∷ ds) =
    let p = same_rank x in
    elim (cases_Bool (nat_lt (rank d) (rank edit))) [
      | inr stays ↦ ap (filter p) (put_in-here edit d ds stays)
      | inl past ↦
          let less = below-true (rank d) (rank edit) past in
          ap (filter p) (put_in-past edit d ds past)
          ∙ elim (cases_Bool (p d)) [
            | inr without ↦
                filter-dropped p d (put_in edit ds) without ∙ filter-put_in x edit ds
                ∙ ap (λ l. cond (p edit) (edit ∷ l) l) (sym (filter-dropped p d ds without))
            | inl with ↦
                elim (cases_Bool (p edit)) [
                  | inl both ↦ absurd (omega (arith, less, same_rank-true x edit both, same_rank-true x d with))
                  | inr only ↦
                      filter-kept p d (put_in edit ds) with ∙ ap (λ l. d ∷ l) (filter-put_in x edit ds ∙ filter-dropped p edit ds only)
                      ∙ sym (filter-dropped p edit (d ∷ ds) only ∙ filter-kept p d ds with)
                ]
          ]
    ]

filter-ordered : (x : Edit) (edits : List Edit) → filter (same_rank x) (ordered edits) ≡ filter (same_rank x) edits
filter-ordered x [] = refl
filter-ordered x (edit ∷ edits) =
    filter-put_in x edit (ordered edits)
    ∙ ap (λ l. cond (same_rank x edit) (edit ∷ l) l) (filter-ordered x edits)

abbrev pub AreAtLeast : ℕ → List Edit → Type 0
AreAtLeast n [] = Unit {0}
AreAtLeast n (edit ∷ edits) = (n ≤ rank edit) × AreAtLeast n edits

-- ranks don't fall
abbrev pub Rises : List Edit → Type 0
Rises [] = Unit {0}
Rises (edit ∷ edits) = AreAtLeast (rank edit) edits × Rises edits

AreAtLeast-le : (n m : ℕ) (edits : List Edit) → n ≤ m → AreAtLeast m edits → AreAtLeast n edits
AreAtLeast-le n m [] le h = tt
AreAtLeast-le n m (edit ∷ edits) le h = let first = h.0 in (omega arith, AreAtLeast-le n m edits le h.1)

AreAtLeast-at : (n : ℕ) (edits : List Edit) → ((j : ℕ) (d : Edit) → j < length edits → n ≤ rank (get_or edits j d)) → AreAtLeast n edits
AreAtLeast-at n [] h = tt
AreAtLeast-at n (edit ∷ edits) h = (h zero edit (suc-le-suc zero-le), AreAtLeast-at n edits (λ j d lt. h (suc j) d (suc-le-suc lt)))

Rises-from_sort : (edits : List Edit) → IsNonDecreasingBy rank edits → Rises edits
Rises-from_sort [] h = tt
Rises-from_sort (edit ∷ edits) h = (
  AreAtLeast-at (rank edit) edits (λ j d lt. h zero (suc j) d zero-le (suc-le-suc lt)),
  Rises-from_sort edits (λ i j d le lt. h (suc i) (suc j) d (suc-le-suc le) (suc-le-suc lt)),
)

AreAtLeast-put_in : (n : ℕ) (edit : Edit) (others : List Edit) → n ≤ rank edit → AreAtLeast n others → AreAtLeast n (put_in edit others)
AreAtLeast-put_in n edit [] le h = (le, tt)
AreAtLeast-put_in n edit (other ∷ others) le h =
    elim (cases_Bool (nat_lt (rank other) (rank edit))) [
      | inl past ↦ rw (put_in-past edit other others past) (h.0, AreAtLeast-put_in n edit others le h.1)
      | inr stays ↦ rw (put_in-here edit other others stays) (le, h)
    ]

Rises-put_in : (edit : Edit) (others : List Edit) → Rises others → Rises (put_in edit others)
Rises-put_in edit [] h = (tt, tt)
Rises-put_in edit (other ∷ others) h =
    elim (cases_Bool (nat_lt (rank other) (rank edit))) [
      | inl past ↦
          let less = below-true (rank other) (rank edit) past in
          rw (put_in-past edit other others past) (AreAtLeast-put_in (rank other) edit others (omega arith) h.0, Rises-put_in edit others h.1)
      | inr stays ↦
          let le = below-false (rank other) (rank edit) stays in
          rw (put_in-here edit other others stays) ((le, AreAtLeast-le (rank edit) (rank other) others le h.0), h)
    ]

pub Rises-ordered : (edits : List Edit) → Rises (ordered edits)
Rises-ordered [] = tt
Rises-ordered (edit ∷ edits) = Rises-put_in edit (ordered edits) (Rises-ordered edits)

-- the rank of x occurs among them
AreAtLeast-found : (n : ℕ) (x : Edit) (ys : List Edit) (w : Edit) (ws : List Edit) → AreAtLeast n ys → filter (same_rank x) ys ≡ w ∷ ws → n ≤ rank x
AreAtLeast-found n x [] w ws h e = cc
AreAtLeast-found n x (y ∷ ys) w ws h e =
    elim (cases_Bool (same_rank x y)) [
      | inl with ↦ omega (arith, h.0, same_rank-true x y with)
      | inr without ↦ AreAtLeast-found n x ys w ws h.1 (sym (filter-dropped (same_rank x) y ys without) ∙ e)
    ]

same_from_ranks : (ys zs : List Edit) → Rises ys → Rises zs → ((x : Edit) → filter (same_rank x) ys ≡ filter (same_rank x) zs) → ys ≡ zs
same_from_ranks [] [] left right same = refl
same_from_ranks [] (z ∷ zs) left right same =
    let clash = same z ∙ filter-kept (same_rank z) z zs (same_rank_from z z refl) in cc
same_from_ranks (y ∷ ys) [] left right same =
    let clash = sym (same y) ∙ filter-kept (same_rank y) y ys (same_rank_from y y refl) in cc
same_from_ranks (y ∷ ys) (z ∷ zs) left right same =
    let at_y = filter-kept (same_rank y) y ys (same_rank_from y y refl) in
    let at_z = filter-kept (same_rank z) z zs (same_rank_from z z refl) in
    let up = AreAtLeast-found (rank z) y (z ∷ zs) y _ (omega arith, right.0) (sym (same y) ∙ at_y) in
    let down = AreAtLeast-found (rank y) z (y ∷ ys) z _ (omega arith, left.0) (same z ∙ at_z) in
    let heads = sym at_y ∙ same y ∙ filter-kept (same_rank y) z zs (same_rank_from y z (omega arith)) in
    let head : y ≡ z = cc in
    let tails : (x : Edit) → filter (same_rank x) ys ≡ filter (same_rank x) zs =
    λ x. elim (cases_Bool (same_rank x y)) [
      | inl with ↦
          let both = sym (filter-kept (same_rank x) y ys with) ∙ same x ∙ filter-kept (same_rank x) z zs (ap (same_rank x) (sym head) ∙ with) in cc
      | inr without ↦
          sym (filter-dropped (same_rank x) y ys without) ∙ same x ∙ filter-dropped (same_rank x) z zs (ap (same_rank x) (sym head) ∙ without)
    ] in
    ap (λ w. w ∷ ys) head ∙ ap (λ l. z ∷ l) (same_from_ranks ys zs left.1 right.1 tails)

pub ordered_from_sort : (edits sorted : List Edit) → IsNonDecreasingBy rank sorted → IsStableByKey rank nat_cmp edits sorted → sorted ≡ ordered edits
ordered_from_sort edits sorted rises stable =
    same_from_ranks sorted (ordered edits) (Rises-from_sort sorted rises) (Rises-ordered edits)
    (λ x. stable x ∙ sym (filter-ordered x edits))

pub All-put_in : (P : Edit → Type 0) (edit : Edit) (others : List Edit) → P edit → All P others → All P (put_in edit others)
All-put_in P edit [] first rest = All-cons P edit [] first rest
All-put_in P edit (other ∷ others) first rest =
    elim (cases_Bool (nat_lt (rank other) (rank edit))) [
      | inl past ↦
          rw (put_in-past edit other others past)
          (All-cons P other (put_in edit others) (All-head P other others rest) (All-put_in P edit others first (All-tail P other others rest)))
      | inr stays ↦ rw (put_in-here edit other others stays) (All-cons P edit (other ∷ others) first rest)
    ]

pub All-ordered : (P : Edit → Type 0) (edits : List Edit) → All P edits → All P (ordered edits)
All-ordered P [] each = each
All-ordered P (edit ∷ edits) each = All-put_in P edit (ordered edits) (All-head P edit edits each) (All-ordered P edits (All-tail P edit edits each))

permuted-put_in : (edit : Edit) (others : List Edit) → IsPermutation (edit ∷ others) (put_in edit others)
permuted-put_in edit [] = IsPermutation-refl (edit ∷ [])
permuted-put_in edit (other ∷ others) =
    elim (cases_Bool (nat_lt (rank other) (rank edit))) [
      | inl past ↦
          rw (put_in-past edit other others past)
          (IsPermutation-trans (edit ∷ other ∷ others) (other ∷ edit ∷ others) (other ∷ put_in edit others)
          (IsPermutation-sym (other ∷ edit ∷ others) (edit ∷ other ∷ others) (IsPermutation-middle (other ∷ []) edit others))
          (IsPermutation-cons other (edit ∷ others) (put_in edit others) (permuted-put_in edit others)))
      | inr stays ↦ rw (put_in-here edit other others stays) (IsPermutation-refl (edit ∷ other ∷ others))
    ]

pub permuted-ordered : (edits : List Edit) → IsPermutation edits (ordered edits)
permuted-ordered [] = IsPermutation-refl []
permuted-ordered (edit ∷ edits) =
    IsPermutation-trans (edit ∷ edits) (edit ∷ ordered edits) (put_in edit (ordered edits))
    (IsPermutation-cons edit edits (ordered edits) (permuted-ordered edits)) (permuted-put_in edit (ordered edits))
