-- What stands inside the elements of a list, each by its place.
use Rattle.std.proofs.Common.{◌≡◌, refl, ℕ, zero, suc, ◌≤◌, ◌<◌, ◌==◌, ◌∙◌, ap, arith, append_assoc, length, List, [], ◌∷◌, ◌++◌, drop, take, get_or, slice_get, subst, sym, Some, None, Ok, true, false}
use Rattle.swift_lexer.specs.declared.element.Element.{Element}
use Rattle.swift_lexer.specs.Trees.{Tree, Forest, leaf, nest, tree_of, forest_of}
use Rattle.decl_parser.specs.declared.inside.Inside.{Inside}
use Rattle.decl_parser.specs.Insides.{AreBlank, IsBlankList, nothing_inside}
use Rattle.decl_parser.specs.Bindings.{names_inside}
use Rattle.decl_parser.specs.Cut.{without}
use Rattle.decl_parser.specs.Held.{first_held}
use Rattle.decl_parser.specs.Levels.{are_silent, held, held_of, inside_of, insides, members_by, items_of_list, tree_inside, tree_size, forest_size}
use Rattle.decl_parser.specs.Fragments.{one_group}
use Rattle.decl_parser.proofs.QuietGroups.{blank_around, length_insides, silent_insides}
use Rattle.std.proofs.lemmas.List.{length-append, length-drop, length-take}

-- two elements or more are no one group
pub one_group_more : (first : Element) (others : List Element) → false ≡ (length others == 0) → one_group (forest_of (first ∷ others)) ≡ None
one_group_more first [] is = cc
one_group_more first (other ∷ others) is = refl

pub insides_take : (text : List ℕ) (n : ℕ) (elements : List Element) → insides text (forest_of (take n elements)) ≡ take n (insides text (forest_of elements))
unfolding insides
insides_take text zero [] = refl
insides_take text zero (element ∷ elements) = refl
insides_take text (suc n) [] = refl
insides_take text (suc n) (element ∷ elements) = ap (λ l. inside_of text (tree_of element) ∷ l) (insides_take text n elements)

pub insides_drop : (text : List ℕ) (n : ℕ) (elements : List Element) → insides text (forest_of (drop n elements)) ≡ drop n (insides text (forest_of elements))
unfolding insides
insides_drop text zero [] = refl
insides_drop text zero (element ∷ elements) = refl
insides_drop text (suc n) [] = refl
insides_drop text (suc n) (element ∷ elements) = insides_drop text n elements

pub held_take : (text : List ℕ) (n : ℕ) (elements : List Element) → held text (forest_of (take n elements)) ≡ take n (held text (forest_of elements))
unfolding held
held_take text zero [] = refl
held_take text zero (element ∷ elements) = refl
held_take text (suc n) [] = refl
held_take text (suc n) (element ∷ elements) = ap (λ l. held_of text (tree_of element) ∷ l) (held_take text n elements)

pub held_drop : (text : List ℕ) (n : ℕ) (elements : List Element) → held text (forest_of (drop n elements)) ≡ drop n (held text (forest_of elements))
unfolding held
held_drop text zero [] = refl
held_drop text zero (element ∷ elements) = refl
held_drop text (suc n) [] = refl
held_drop text (suc n) (element ∷ elements) = held_drop text n elements

-- where there is no element at the place, there are no members
pub members_absent : (text : List ℕ) (n : ℕ) (elements : List Element) → length elements ≤ n → (first_held (drop n (held text (forest_of elements)))).members ≡ Ok []
unfolding held
members_absent text zero [] absent = refl
members_absent text (suc n) [] absent = refl
members_absent text zero (element ∷ elements) absent = absurd (omega (arith, absent))
members_absent text (suc n) (element ∷ elements) absent = members_absent text n elements (omega (arith, absent))

-- else those of the element at the place
pub members_present : (text : List ℕ) (n : ℕ) (elements : List Element) (default : Element) → n < length elements → (first_held (drop n (held text (forest_of elements)))).members ≡ (held_of text (tree_of (get_or elements n default))).members
unfolding held
members_present text zero [] default present = absurd (omega (arith, present))
members_present text (suc n) [] default present = absurd (omega (arith, present))
members_present text zero (element ∷ elements) default present = refl
members_present text (suc n) (element ∷ elements) default present = members_present text n elements default (omega (arith, present))

pub members_inside : (text : List ℕ) (tree : Tree) → members_by text (tree_inside tree) ≡ (held_of text tree).members
unfolding held_of items_of_list
members_inside text (leaf token) = refl
members_inside text (nest left inner right) = refl

pub inside_smaller : (tree : Tree) (inner : Forest) → tree_inside tree ≡ Some inner → forest_size inner < tree_size tree
inside_smaller (leaf token) inner is = cc
inside_smaller (nest left forest right) inner is = let same : forest ≡ inner = cc in omega (arith, ap forest_size same)

pub element_smaller : (n : ℕ) (elements : List Element) (default : Element) → n < length elements → tree_size (tree_of (get_or elements n default)) ≤ forest_size (forest_of elements)
element_smaller zero [] default present = absurd (omega (arith, present))
element_smaller (suc n) [] default present = absurd (omega (arith, present))
element_smaller zero (element ∷ elements) default present = omega arith
element_smaller (suc n) (element ∷ elements) default present = omega (arith, element_smaller n elements default (omega (arith, present)))

-- all but one element are looked into
pub without_is : (text : List ℕ) (place : ℕ) (elements : List Element) (front behind : List Inside) (here : Inside) → front ≡ insides text (forest_of (take place elements)) → here ≡ nothing_inside → behind ≡ insides text (forest_of (drop 1 (drop place elements))) → (front ++ here ∷ []) ++ behind ≡ without (Some place) (insides text (forest_of elements))
without_is text place elements front behind here is_front is_here is_behind =
    append_assoc front (here ∷ []) behind
    ∙ ap (λ l. l ++ (here ∷ behind)) (is_front ∙ insides_take text place elements)
    ∙ ap (λ h. take place (insides text (forest_of elements)) ++ (h ∷ behind)) is_here
    ∙ ap (λ l. take place (insides text (forest_of elements)) ++ (nothing_inside ∷ l)) (is_behind ∙ insides_drop text 1 (drop place elements) ∙ ap (drop 1) (insides_drop text place elements))

-- the names that an element holds
held_names_are : (text : List ℕ) (tree : Tree) → (held_of text tree).names ≡ names_inside text tree
unfolding held_of names_inside
held_names_are text (leaf token) = refl
held_names_are text (nest left inner right) = refl

-- those that the first element holds, where there is one
pub first_names_are : (text : List ℕ) (elements : List Element) (element : Element) → Some element ≡ slice_get elements 0 → names_inside text (tree_of element) ≡ (first_held (held text (forest_of elements))).names
unfolding held
first_names_are text [] element is = cc
first_names_are text (first ∷ others) element is =
    let same : element ≡ first = cc in ap (λ e. names_inside text (tree_of e)) same ∙ sym (held_names_are text (tree_of first))

pub no_first_names : (text : List ℕ) (elements : List Element) → None ≡ slice_get elements 0 → [] ≡ (first_held (held text (forest_of elements))).names
unfolding held
no_first_names text [] is = refl
no_first_names text (first ∷ others) is = cc

-- nothing stands inside the elements around the place
pub blank_without : (text : List ℕ) (place : ℕ) (elements : List Element) → place < length elements → are_silent text (forest_of (take place elements)) ≡ true → are_silent text (forest_of (drop 1 (drop place elements))) ≡ true → IsBlankList (length elements) (without (Some place) (insides text (forest_of elements)))
blank_without text place elements within before after =
    let all = insides text (forest_of elements) in
    let front : AreBlank (take place all) = subst AreBlank (insides_take text place elements) (silent_insides text (forest_of (take place elements)) before) in
    let behind : AreBlank (drop 1 (drop place all)) = subst AreBlank (insides_drop text 1 (drop place elements) ∙ ap (drop 1) (insides_drop text place elements)) (silent_insides text (forest_of (drop 1 (drop place elements))) after) in (
      blank_around (take place all) (drop 1 (drop place all)) front behind,
      omega (arith, within, length_insides text elements, length-append (take place all) (nothing_inside ∷ drop 1 (drop place all)), length-take place all, length-drop place all, length-drop 1 (drop place all)),
    )
