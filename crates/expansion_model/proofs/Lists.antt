-- What is in lists, for the laws of the visit.
use Rattle.std.proofs.Common.{◌≡◌, ap, refl, arith, zero, suc, ◌⊎◌, inl, inr, List, [], ◌∷◌, ◌++◌, map, Bool, true, false, ◌||◌}
use Rattle.std.specs.List.{Contains}
use Rattle.std.proofs.lemmas.List.Elements.{Contains-append_left, Contains-append_right, Contains-append_cases}

pub contains_none : {A : Type 0} {B : Type 0} (x : A) → Contains [] x → B
contains_none x has = let lt = has.1 in absurd (omega arith)

pub contains_first : {A : Type 0} (x : A) (xs : List A) → Contains (x ∷ xs) x
contains_first x xs = (0, omega arith, refl)

pub contains_rest : {A : Type 0} (y : A) (xs : List A) (x : A) → Contains xs x → Contains (y ∷ xs) x
contains_rest y xs x has = let lt = has.1 in (suc has.0, omega arith, has.2)

pub contains_cases : {A : Type 0} (y : A) (xs : List A) (x : A) → Contains (y ∷ xs) x → (y ≡ x) ⊎ Contains xs x
contains_cases y xs x (zero, lt, is) = inl is
contains_cases y xs x (suc k, lt, is) = inr (k, omega arith, is)

-- what each of two lists keeps is kept by both joined
pub contains_joined : {A : Type 0} (x : A) (one other first second : List A) → (Contains one x → Contains first x) → (Contains other x → Contains second x) → Contains (one ++ other) x → Contains (first ++ second) x
contains_joined x one other first second keeps also has =
    elim (Contains-append_cases one other x has) [
      | inl left ↦ Contains-append_left first second x (keeps left)
      | inr right ↦ Contains-append_right first second x (also right)
    ]

pub append_nothing : {A : Type 0} (xs ys : List A) → xs ++ ys ≡ [] → (xs ≡ []) × (ys ≡ [])
append_nothing [] ys none_ = (refl, none_)
append_nothing (x ∷ xs) ys none_ = cc

pub any_neither : (one other : Bool) → (one || other) ≡ false → (one ≡ false) × (other ≡ false)
any_neither true other neither = cc
any_neither false other neither = (refl, neither)

pub map_append : {A B : Type 0} (f : A → B) (xs ys : List A) → map f (xs ++ ys) ≡ map f xs ++ map f ys
map_append {B = B} f [] ys = refl
map_append {B = B} f (x ∷ xs) ys = ap (λ (mapped : List B). f x ∷ mapped) (map_append f xs ys)
