-- How often keys stand in lists.
use Rattle.std.proofs.Common.{◌≡◌, refl, sym, ap, subst, arith, ℕ, zero, suc, ◌+◌, ◌<◌, ◌≤◌, ◌⊎◌, inl, inr, Bool, true, false, List, [], ◌∷◌, ◌++◌, length, map}
use Rattle.std.specs.Cmp.Lexicographic.{pointwise}
use Rattle.std.specs.List.{All, Contains}
use Rattle.std.specs.List.Sorted.{IsPermutation}
use Rattle.std.proofs.lemmas.List.Elements.{All-head, All-tail, Contains-append_left, Contains-append_right, Contains-append_cases, Contains-push, Contains-push_cases}
use Rattle.std.proofs.lemmas.List.Sums.{sum_by-append, sum_by-cons}
use Rattle.std.proofs.lemmas.List.Sorted.{sum_by-IsPermutation}
use Rattle.unique_names.specs.Steps.{step_eq}
use Rattle.unique_names.proofs.Laws.{keys_decide}
use Rattle.link_driver.specs.Links.{KeySteps}
use Rattle.expand_top.specs.Asking.{one_if, times, AreDifferent}

abbrev same : KeySteps → KeySteps → Bool
same key other = pointwise step_eq key other

abbrev counts : KeySteps → KeySteps → ℕ
counts key other = one_if (same key other)

pub times_append : (key : KeySteps) (keys others : List KeySteps) → times key (keys ++ others) ≡ times key keys + times key others
times_append key keys others = sum_by-append (counts key) keys others

times_cons : (key other : KeySteps) (keys : List KeySteps) → times key (other ∷ keys) ≡ counts key other + times key keys
times_cons key other keys = sum_by-cons (counts key) other keys

one_if_small : (b : Bool) → one_if b ≤ 1
one_if_small true = omega arith
one_if_small false = omega arith

-- a key that stands in a list is one of it
stands_if : (b : Bool) (key other : KeySteps) (keys : List KeySteps) → same key other ≡ b → 0 < one_if b + times key keys → (0 < times key keys → Contains keys key) → Contains (other ∷ keys) key
stands_if true key other keys is some later = subst (λ k. Contains (other ∷ keys) k) (sym ((keys_decide key other).0 is)) (Contains-append_left (other ∷ []) keys other (Contains-push [] other))
stands_if false key other keys is some later = Contains-append_right (other ∷ []) keys key (later (omega (arith, some)))

pub stands : (key : KeySteps) (keys : List KeySteps) → 0 < times key keys → Contains keys key
stands key [] some = absurd (omega (arith, some))
stands key (other ∷ keys) some = stands_if (same key other) key other keys refl (omega (arith, some, times_cons key other keys)) (stands key keys)

-- and the other way round
itself : (key other : KeySteps) → other ≡ key → counts key other ≡ 1
itself key other is = ap one_if ((keys_decide key other).1 (sym is))

pub not_in_none : {A X : Type 0} (x : X) → Contains [] x → A
not_in_none x has = absurd (omega (arith, has.1))

pub one_of : {X : Type 0} (x only : X) → Contains (only ∷ []) x → only ≡ x
one_of x only has = elim (Contains-push_cases [] only x has) [
  | inl none_ ↦ not_in_none x none_
  | inr is ↦ is
]

pub counted : (key : KeySteps) (keys : List KeySteps) → Contains keys key → 0 < times key keys
counted key [] has = not_in_none key has
counted key (other ∷ keys) has =
    elim (Contains-append_cases (other ∷ []) keys key has) [
      | inl first ↦ omega (arith, times_cons key other keys, itself key other (one_of key other first))
      | inr later ↦ omega (arith, times_cons key other keys, counted key keys later)
    ]

times_permuted : (key : KeySteps) (keys others : List KeySteps) → IsPermutation keys others → times key others ≡ times key keys
times_permuted key keys others permuted = sum_by-IsPermutation (counts key) keys others permuted

pub different_permuted : (keys others : List KeySteps) → IsPermutation keys others → AreDifferent keys → AreDifferent others
different_permuted keys others permuted different key = omega (arith, different key, times_permuted key keys others permuted)

pub contains_permuted : (keys others : List KeySteps) (key : KeySteps) → IsPermutation keys others → Contains others key → Contains keys key
contains_permuted keys others key permuted has = stands key keys (omega (arith, counted key others has, times_permuted key keys others permuted))

pub different_front : (keys others : List KeySteps) → AreDifferent (keys ++ others) → AreDifferent keys
different_front keys others different key = omega (arith, different key, times_append key keys others)

-- one key more, which doesn't stand there
with_more : (b : Bool) (key more : KeySteps) (keys : List KeySteps) → same key more ≡ b → AreDifferent keys → (Contains keys more → ⊥) → times key keys + one_if b ≤ 1
with_more true key more keys is different new =
    let none_ : (0 < times key keys) → ⊥ = λ some. new (subst (λ k. Contains keys k) ((keys_decide key more).0 is) (stands key keys some)) in
    zero_or (times key keys) none_
  where
    zero_or : (n : ℕ) → ((0 < n) → ⊥) → n + 1 ≤ 1
    zero_or zero none_ = omega arith
    zero_or (suc n) none_ = absurd (none_ (omega arith))
with_more false key more keys is different new = omega (arith, different key)

pub different_more : (keys : List KeySteps) (more : KeySteps) → AreDifferent keys → (Contains keys more → ⊥) → AreDifferent (keys ++ more ∷ [])
different_more keys more different new key =
    omega (arith, with_more (same key more) key more keys refl different new, times_append key keys (more ∷ []), times_cons key more [])

-- what stands in the list of images is the image of one of the list
pub of_map : {A B : Type 0} (f : A → B) (xs : List A) (y : B) → Contains (map f xs) y → (x : A) × Contains xs x × (f x ≡ y)
of_map f [] y has = not_in_none y has
of_map f (x ∷ xs) y has =
    elim (Contains-append_cases (f x ∷ []) (map f xs) y has) [
      | inl first ↦ (x, Contains-append_left (x ∷ []) xs x (Contains-push [] x), one_of y (f x) first)
      | inr later ↦ let there = of_map f xs y later in (there.0, Contains-append_right (x ∷ []) xs there.0 there.1, there.2)
    ]

pub in_map : {A B : Type 0} (f : A → B) (xs : List A) (x : A) → Contains xs x → Contains (map f xs) (f x)
in_map f [] x has = not_in_none x has
in_map f (other ∷ xs) x has =
    elim (Contains-append_cases (other ∷ []) xs x has) [
      | inl first ↦ subst (λ y. Contains (f other ∷ map f xs) (f y)) (one_of x other first) (Contains-append_left (f other ∷ []) (map f xs) (f other) (Contains-push [] (f other)))
      | inr later ↦ Contains-append_right (f other ∷ []) (map f xs) (f x) (in_map f xs x later)
    ]

-- a key stands in a list, or it doesn't
stands_by : (n : ℕ) (key : KeySteps) (keys : List KeySteps) → times key keys ≡ n → Contains keys key ⊎ (Contains keys key → ⊥)
stands_by zero key keys is = inr (λ has. absurd (omega (arith, is, counted key keys has)))
stands_by (suc n) key keys is = inl (stands key keys (omega (arith, is)))

pub stands_or_not : (key : KeySteps) (keys : List KeySteps) → Contains keys key ⊎ (Contains keys key → ⊥)
stands_or_not key keys = stands_by (times key keys) key keys refl

-- how often keys stand in a list, all together
abbrev hits : List KeySteps → List KeySteps → ℕ
hits [] keys = 0
hits (other ∷ others) keys = times other keys + hits others keys

few_hits : (others keys : List KeySteps) → AreDifferent keys → hits others keys ≤ length others
few_hits [] keys different = omega arith
few_hits (other ∷ others) keys different = omega (arith, different other, few_hits others keys different)

hits_cons : (others : List KeySteps) (key : KeySteps) (keys : List KeySteps) → hits others (key ∷ keys) ≡ hits others (key ∷ []) + hits others keys
hits_cons [] key keys = omega arith
hits_cons (other ∷ others) key keys = omega (arith, times_cons other key keys, times_cons other key [], hits_cons others key keys)

is_hit : (others : List KeySteps) (key : KeySteps) → Contains others key → 0 < hits others (key ∷ [])
is_hit [] key has = not_in_none key has
is_hit (other ∷ others) key has = elim (Contains-append_cases (other ∷ []) others key has) [
  | inl first ↦ omega (arith, times_cons other key [], itself other key (sym (one_of key other first)))
  | inr later ↦ omega (arith, is_hit others key later)
]

all_hit : (keys others : List KeySteps) → All (Contains others) keys → length keys ≤ hits others keys
all_hit [] others each = omega arith
all_hit (key ∷ keys) others each =
    omega (arith, is_hit others key (All-head (Contains others) key keys each), hits_cons others key keys, all_hit keys others (All-tail (Contains others) key keys each))

-- different keys of a list are no more than the list has
pub no_more : (keys others : List KeySteps) → AreDifferent keys → All (Contains others) keys → length keys ≤ length others
no_more keys others different each = omega (arith, all_hit keys others each, few_hits others keys different)
