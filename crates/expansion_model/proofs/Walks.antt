-- Walks along a list by look-ups.
use Rattle.std.proofs.Common.{◌≡◌, ◌∙◌, refl, sym, ap, subst, arith, ℕ, ◌+◌, ◌==◌, ◌||◌, inl, inr, Bool, true, false, if◌then◌else◌, Option, Some, None, List, [], ◌∷◌, drop, length}
use Rattle.std.specs.List.{filter, list_any, slice_get}
use Rattle.swift_tree.specs.declared.item.Item.{Item}
use Rattle.swift_tree.specs.Outlines.{items_of}
use Rattle.expansion_model.specs.Visit.{is_without}
use Rattle.std.proofs.lemmas.Bool.{ne_eqb}
use Rattle.std.proofs.lemmas.List.{drop_all, drop_more}
use Rattle.std.proofs.lemmas.Option.{get_or_from_slice_get, slice_get_cases, slice_get_within}

some_is_none : {A X : Type 0} (x : X) → Some x ≡ None → A
some_is_none {A} {X} x is = let P : Option X → Type 0 = λ o. elim o [ None ↦ A | Some y ↦ Unit {0} ] in subst P is tt

pub past_the_end : {X : Type 0} (xs : List X) (index : ℕ) → slice_get xs index ≡ None → drop index xs ≡ []
past_the_end xs index is =
    elim (slice_get_cases xs index).1 [
      | inl there ↦ some_is_none there.0 (sym there.2 ∙ is)
      | inr past ↦ drop_all index xs past.0
    ]

pub one_further : {X : Type 0} (xs : List X) (index : ℕ) (x : X) → slice_get xs index ≡ Some x → drop index xs ≡ x ∷ drop (index + 1) xs
one_further xs index x is =
    drop_more xs index x (slice_get_within xs index x is) ∙ ap (λ y. y ∷ drop (index + 1) xs) (get_or_from_slice_get xs index x x is)

-- a row of declarations has none where it is empty
pub without_by_length : (items : List Item) → (length items == 0) ≡ is_without (items_of items)
without_by_length [] = refl
without_by_length (item ∷ items) = ne_eqb (length (item ∷ items)) 0 (λ is. absurd (omega (arith, is)))

pub none_filtered : {X : Type 0} (test : X → Bool) (xs : List X) → filter test xs ≡ [] → list_any test xs ≡ false
none_filtered test [] is = refl
none_filtered test (x ∷ xs) is = none_if (test x) x (filter test xs) (list_any test xs) is (none_filtered test xs)
  where
    none_if : {X : Type 0} (b : Bool) (x : X) (rest : List X) (any : Bool) → (if b then x ∷ rest else rest) ≡ [] → (rest ≡ [] → any ≡ false) → (b || any) ≡ false
    none_if true x rest any is others = cc
    none_if false x rest any is others = others is

pub some_filtered : {X : Type 0} (test : X → Bool) (xs : List X) (y : X) (ys : List X) → filter test xs ≡ y ∷ ys → list_any test xs ≡ true
some_filtered test [] y ys is = cc
some_filtered test (x ∷ xs) y ys is = some_if (test x) x y (filter test xs) ys (list_any test xs) is (some_filtered test xs y ys)
  where
    some_if : {X : Type 0} (b : Bool) (x y : X) (rest ys : List X) (any : Bool) → (if b then x ∷ rest else rest) ≡ y ∷ ys → (rest ≡ y ∷ ys → any ≡ true) → (b || any) ≡ true
    some_if true x y rest ys any is others = refl
    some_if false x y rest ys any is others = others is
