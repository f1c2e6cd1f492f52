-- What is read of a list in which no macro use and no attribute begins.
use Rattle.std.proofs.Common.{◌≡◌, refl, ℕ, zero, suc, ◌+◌, ◌≤◌, ◌∙◌, ap, sym, subst, arith, drop-drop, List, [], ◌∷◌, ◌++◌, length, map, drop, take, nat_lt, Bool, true, false, ◌||◌, ◌&&◌, not, if◌then◌else◌}
use Rattle.std.specs.List.{flat_map, list_any}
use Rattle.swift_lexer.specs.declared.element.Element.{Element}
use Rattle.swift_lexer.specs.Trees.{Tree, Forest, forest_of, leaf, nest, none, cons}
use Rattle.element_marks.specs.declared.mark.Mark.{Mark}
use Rattle.element_marks.specs.Accessors.{observes_from}
use Rattle.element_marks.specs.Heads.{attribute_length, by_length}
use Rattle.element_marks.specs.Sorts.{is_at, is_use}
use Rattle.element_marks.specs.Uses.{use_length}
use Rattle.element_marks.specs.Levels.{level, own_marks}
use Rattle.element_marks.specs.Quiet.{is_quiet, may_list_accessors}
use Rattle.element_marks.proofs.Quieter.{Quiet, bare, bare_level, quiet_accessors, quiet_attribute, quiet_drop, quiet_level, quiet_use}
use Rattle.decl_parser.specs.declared.inside.Inside.{Inside}
use Rattle.decl_parser.specs.Attributes.{attr_of}
use Rattle.decl_parser.specs.Found.{all_within, found_from, found_in, found_step, joined, nothing, within}
use Rattle.decl_parser.specs.Insides.{AreBlank, nothing_inside}
use Rattle.decl_parser.specs.Levels.{are_silent, inside_of, insides, is_leaf, is_silent, read_inside}
use Rattle.decl_parser.proofs.FoundWalks.{other_step}

length_bare : (marks : List Mark) → length (map bare marks) ≡ length marks
length_bare [] = refl
length_bare (mark ∷ marks) = ap suc (length_bare marks)

length_own : (text : List ℕ) (elements : List Element) → length (own_marks text (forest_of elements)) ≡ length elements
length_own text [] = refl
length_own text (element ∷ elements) = ap suc (length_own text elements)

pub length_level : (text : List ℕ) (elements : List Element) → length (level text (forest_of elements)) ≡ length elements
length_level text elements =
    sym (length_bare (level text (forest_of elements)))
    ∙ ap length (bare_level text (forest_of elements))
    ∙ length_bare (own_marks text (forest_of elements))
    ∙ length_own text elements

pub length_insides : (text : List ℕ) (elements : List Element) → length (insides text (forest_of elements)) ≡ length elements
unfolding insides
length_insides text [] = refl
length_insides text (element ∷ elements) = ap suc (length_insides text elements)

neither : (b : Bool) (n : ℕ) → n ≡ 0 → 0 ≡ (if b then n else 0)
neither true n is = sym is
neither false n is = refl

-- so is what is found in elements of which none begins a use or an attribute
quiet_step : (blocks : List ℕ) (own : ℕ) (list : List Mark) (at : ℕ) (insides : List Inside) → Quiet (drop at list) → found_step blocks own list at insides ≡ record { more = 0; found = within insides }
quiet_step blocks own list at insides quiet =
    let absent = quiet_attribute (drop at list) quiet in
    other_step (use_length blocks _ (drop at list)) (if nat_lt at own then attribute_length (drop at list) else 0) (drop at list) insides
    (sym (quiet_use blocks _ (drop at list) quiet)) (neither (nat_lt at own) (attribute_length (drop at list)) absent)
    ∙ ap (λ n. record { more = 0; found = record { attrs = []; uses = (within insides).uses; locals = by_length n [] (λ more. attr_of (drop at list) insides ∷ []) ++ (within insides).locals } }) absent

quiet_next : (at : ℕ) (list : List Mark) → Quiet (drop at list) → Quiet (drop (suc at) list)
quiet_next at list quiet =
    let next : at + 1 ≡ suc at = omega arith in
    subst Quiet (drop-drop 1 at list ∙ ap (λ n. drop n list) next) (quiet_drop 1 (drop at list) quiet)

pub quiet_from : (blocks : List ℕ) (own : ℕ) (list : List Mark) (at left : ℕ) (insides : List Inside) → Quiet (drop at list) → length insides ≤ left → found_from blocks own list at 0 left insides ≡ all_within insides
quiet_from blocks own list at zero [] quiet beside = refl
quiet_from blocks own list at zero (inside ∷ insides) quiet beside = absurd (omega (arith, beside))
quiet_from blocks own list at (suc left) [] quiet beside =
    ap (λ step. joined step.found (found_from blocks own list (suc at) step.more left [])) (quiet_step blocks own list at [] quiet)
    ∙ quiet_from blocks own list (suc at) left [] (quiet_next at list quiet) (omega arith)
quiet_from blocks own list at (suc left) (inside ∷ insides) quiet beside =
    ap (λ step. joined step.found (found_from blocks own list (suc at) step.more left insides)) (quiet_step blocks own list at (inside ∷ insides) quiet)
    ∙ ap (joined (within (inside ∷ insides))) (quiet_from blocks own list (suc at) left insides (quiet_next at list quiet) (omega (arith, beside)))

length_forest : (text : List ℕ) (forest : Forest) → length (insides text forest) ≡ length (own_marks text forest)
unfolding insides
length_forest text none = refl
length_forest text (cons tree forest) = ap suc (length_forest text forest)

length_marks : (text : List ℕ) (forest : Forest) → length (level text forest) ≡ length (own_marks text forest)
length_marks text forest = sym (length_bare (level text forest)) ∙ ap length (bare_level text forest) ∙ length_bare (own_marks text forest)

-- what is found is what stands inside the elements
pub quiet_found : (text : List ℕ) (forest : Forest) → is_quiet forest ≡ true → all_within (insides text forest) ≡ found_in (level text forest) (insides text forest)
unfolding found_in
quiet_found text forest quiet =
    sym (quiet_from [] 0 (level text forest) 0 (length (level text forest)) (insides text forest) (quiet_level text forest quiet)
    (omega (arith, length_marks text forest, length_forest text forest)))

neither_of : (a b : Bool) → (a || b) ≡ false → (a ≡ false) × (b ≡ false)
neither_of true b is = cc
neither_of false b is = (refl, is)

pub quiet_none : (marks : List Mark) → list_any (λ mark. is_use mark || is_at mark) marks ≡ false → Quiet marks
quiet_none [] is = tt
quiet_none (mark ∷ marks) is =
    let parts = neither_of (is_use mark || is_at mark) (list_any (λ m. is_use m || is_at m) marks) is in
    (parts.0, quiet_none marks parts.1)

both : (a b : Bool) → (a && b) ≡ true → (a ≡ true) × (b ≡ true)
both true b is = (refl, is)
both false b is = cc

negated : (b : Bool) → not b ≡ true → b ≡ false
negated true is = cc
negated false is = refl

pub blank_leaf : (text : List ℕ) (tree : Tree) → is_leaf tree ≡ true → nothing_inside ≡ inside_of text tree
unfolding inside_of
blank_leaf text (leaf token) is = refl
blank_leaf text (nest left inner right) is = cc

pub nothing_within : (insides : List Inside) → AreBlank insides → nothing ≡ all_within insides
nothing_within [] empty = refl
nothing_within (inside ∷ insides) empty =
    nothing_within insides empty.1
    ∙ ap (λ i. record { attrs = []; uses = i.uses ++ flat_map (λ inside. inside.uses) insides; locals = i.locals ++ flat_map (λ inside. inside.locals) insides }) (sym empty.0)

-- nothing stands inside silent elements
mutual
  unfolding inside_of insides read_inside

  silent_inside : (text : List ℕ) (tree : Tree) → is_silent text tree ≡ true → inside_of text tree ≡ nothing_inside
  silent_inside text (leaf token) is = refl
  silent_inside text (nest left inner right) is =
      let last = both (is_quiet inner && not (may_list_accessors text inner)) (are_silent text inner) is in
      let first = both (is_quiet inner) (not (may_list_accessors text inner)) last.0 in
      let accessors = quiet_accessors text inner first.0 (negated (may_list_accessors text inner) first.1) in
      let found : nothing ≡ found_in (level text inner) (insides text inner) = nothing_within (insides text inner) (silent_insides text inner last.1) ∙ quiet_found text inner first.0 in
      sym (
      ap (λ f. record { observes = false; lists_accessors = false; uses = f.uses; locals = f.locals }) found
      ∙ ap (λ b. record { observes = b; lists_accessors = false; uses = (found_in (level text inner) (insides text inner)).uses; locals = (found_in (level text inner) (insides text inner)).locals }) accessors.0
      ∙ ap (λ b. record { observes = observes_from 0 (level text inner); lists_accessors = b; uses = (found_in (level text inner) (insides text inner)).uses; locals = (found_in (level text inner) (insides text inner)).locals }) accessors.1
      )

  pub silent_insides : (text : List ℕ) (forest : Forest) → are_silent text forest ≡ true → AreBlank (insides text forest)
  silent_insides text none is = tt
  silent_insides text (cons tree forest) is =
      let parts = both (is_silent text tree) (are_silent text forest) is in
      (silent_inside text tree parts.0, silent_insides text forest parts.1)

-- blanks stand for as many
pub blank_list : (insides blanks : List Inside) → AreBlank insides → AreBlank blanks → length insides ≤ length blanks → take (length insides) blanks ≡ insides
blank_list [] [] are all few = refl
blank_list [] (blank ∷ blanks) are all few = refl
blank_list (inside ∷ others) [] are all few = absurd (omega (arith, few))
blank_list (inside ∷ others) (blank ∷ blanks) are all few =
    ap (λ i. i ∷ take (length others) blanks) (all.0 ∙ sym are.0)
    ∙ ap (λ l. inside ∷ l) (blank_list others blanks are.1 all.1 (omega (arith, few)))

-- one more of them
pub blank_push : (insides : List Inside) (inside : Inside) → AreBlank insides → inside ≡ nothing_inside → AreBlank (insides ++ inside ∷ [])
blank_push [] inside blank is = (is, tt)
blank_push (first ∷ insides) inside blank is = (blank.0, blank_push insides inside blank.1 is)

-- those before a place and those behind it, with nothing inside the element there
pub blank_around : (front behind : List Inside) → AreBlank front → AreBlank behind → AreBlank (front ++ (nothing_inside ∷ behind))
blank_around [] behind blank are = (refl, are)
blank_around (first ∷ front) behind blank are = (blank.0, blank_around front behind blank.1 are)
