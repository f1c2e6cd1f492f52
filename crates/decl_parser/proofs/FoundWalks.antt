-- What is found in elements one behind the other.
use Rattle.std.proofs.Common.{◌≡◌, refl, ℕ, zero, suc, ◌+◌, ◌-◌, ◌<◌, ◌≤◌, ◌∙◌, ap, sym, arith, append-nil, append_assoc, length, List, [], ◌∷◌, ◌++◌, take, drop, drop-drop}
use Rattle.swift_tree.specs.declared.item.Attr.{Attr}
use Rattle.element_marks.specs.declared.mark.Mark.{Mark}
use Rattle.element_marks.specs.Heads.{by_length}
use Rattle.decl_parser.specs.declared.inside.Inside.{Inside}
use Rattle.decl_parser.specs.Insides.{first_inside}
use Rattle.decl_parser.specs.Attributes.{attr_of, use_of}
use Rattle.decl_parser.specs.Found.{Found, Step, found_from, found_step, joined, local_attributes, nothing, within}

pub joined_nothing : (found : Found) → joined found nothing ≡ found
joined_nothing found = ap (λ l. record { attrs = l; uses = found.uses ++ []; locals = found.locals ++ [] }) (append-nil found.attrs)
    ∙ ap (λ l. record { attrs = found.attrs; uses = l; locals = found.locals ++ [] }) (append-nil found.uses)
    ∙ ap (λ l. record { attrs = found.attrs; uses = found.uses; locals = l }) (append-nil found.locals)

pub joined_more : (before step after : Found) → joined (joined before step) after ≡ joined before (joined step after)
joined_more before step after =
    ap (λ l. record { attrs = l; uses = (before.uses ++ step.uses) ++ after.uses; locals = (before.locals ++ step.locals) ++ after.locals }) (append_assoc before.attrs step.attrs after.attrs)
    ∙ ap (λ l. record { attrs = before.attrs ++ (step.attrs ++ after.attrs); uses = l; locals = (before.locals ++ step.locals) ++ after.locals }) (append_assoc before.uses step.uses after.uses)
    ∙ ap (λ l. record { attrs = before.attrs ++ (step.attrs ++ after.attrs); uses = before.uses ++ (step.uses ++ after.uses); locals = l }) (append_assoc before.locals step.locals after.locals)

skip : (blocks : List ℕ) (own : ℕ) (list : List Mark) (at inside left : ℕ) (insides : List Inside) → found_from blocks own list at inside left insides ≡ found_from blocks own list (at + inside) 0 (left - inside) (drop inside insides)
skip blocks own list at inside zero insides = let none : 0 ≡ 0 - inside = omega arith in ap (λ n. found_from blocks own list (at + inside) 0 n (drop inside insides)) none
skip blocks own list at zero (suc left) insides =
    let place : at ≡ at + 0 = omega arith in
    let all : suc left ≡ suc left - 0 = omega arith in
    ap (λ n. found_from blocks own list n 0 (suc left) insides) place ∙ ap (λ n. found_from blocks own list (at + 0) 0 n insides) all
skip blocks own list at (suc inside) (suc left) insides =
    let place : suc at + inside ≡ at + suc inside = omega arith in
    let rest : left - inside ≡ suc left - suc inside = omega arith in
    let behind : 1 + inside ≡ suc inside = omega arith in
    skip blocks own list (suc at) inside left (drop 1 insides)
    ∙ ap (λ n. found_from blocks own list n 0 (left - inside) (drop inside (drop 1 insides))) place
    ∙ ap (λ n. found_from blocks own list (at + suc inside) 0 n (drop inside (drop 1 insides))) rest
    ∙ ap (found_from blocks own list (at + suc inside) 0 (suc left - suc inside)) (drop-drop inside 1 insides ∙ ap (λ n. drop n insides) behind)

-- what a step finds, and then what is found behind it
step_then : (blocks : List ℕ) (own : ℕ) (list : List Mark) (at left more : ℕ) (insides : List Inside) → (found_step blocks own list at insides).more ≡ more → found_from blocks own list at 0 (suc left) insides ≡ joined (found_step blocks own list at insides).found (found_from blocks own list (at + suc more) 0 (suc left - suc more) (drop (suc more) insides))
step_then blocks own list at left more insides is =
    let place : suc at + more ≡ at + suc more = omega arith in
    let rest : left - more ≡ suc left - suc more = omega arith in
    let behind : 1 + more ≡ suc more = omega arith in
    ap (joined (found_step blocks own list at insides).found)
    (ap (λ n. found_from blocks own list (suc at) n left (drop 1 insides)) is
    ∙ skip blocks own list (suc at) more left (drop 1 insides)
    ∙ ap (λ n. found_from blocks own list n 0 (left - more) (drop more (drop 1 insides))) place
    ∙ ap (λ n. found_from blocks own list (at + suc more) 0 n (drop more (drop 1 insides))) rest
    ∙ ap (found_from blocks own list (at + suc more) 0 (suc left - suc more)) (drop-drop more 1 insides ∙ ap (λ n. drop n insides) behind))

step_left : (blocks : List ℕ) (own : ℕ) (list : List Mark) (at left length : ℕ) (insides : List Inside) → 0 < left → length ≡ suc (found_step blocks own list at insides).more → found_from blocks own list at 0 left insides ≡ joined (found_step blocks own list at insides).found (found_from blocks own list (at + length) 0 (left - length) (drop length insides))
step_left blocks own list at zero length insides some is = absurd (omega (arith, some))
step_left blocks own list at (suc left) length insides some is =
    step_then blocks own list at left (found_step blocks own list at insides).more insides refl
    ∙ ap (λ n. joined (found_step blocks own list at insides).found (found_from blocks own list (at + n) 0 (suc left - n) (drop n insides))) (sym is)

-- what was found before, and then what is found in the elements from a place on
abbrev pub found_behind : List ℕ → ℕ → List Mark → ℕ → List Inside → ℕ → Found → Found
found_behind blocks own list from insides at before = joined before (found_from blocks own list at 0 (length list - at) (drop (at - from) insides))

pub found_further : (blocks : List ℕ) (own : ℕ) (list : List Mark) (from : ℕ) (insides : List Inside) (at count : ℕ) (before after : Found) → from ≤ at → at < length list → count ≡ suc (found_step blocks own list at (drop (at - from) insides)).more → after ≡ joined before (found_step blocks own list at (drop (at - from) insides)).found → found_behind blocks own list from insides (at + count) after ≡ found_behind blocks own list from insides at before
found_further blocks own list from insides at count before after reached within is found =
    let rest : length list - (at + count) ≡ (length list - at) - count = omega arith in
    let behind : (at + count) - from ≡ (at - from) + count = omega arith in
    let some : 0 < length list - at = omega arith in
    ap (λ f. joined f (found_from blocks own list (at + count) 0 (length list - (at + count)) (drop ((at + count) - from) insides))) found
    ∙ ap (λ n. joined (joined before (found_step blocks own list at (drop (at - from) insides)).found) (found_from blocks own list (at + count) 0 n (drop ((at + count) - from) insides))) rest
    ∙ ap (λ l. joined (joined before (found_step blocks own list at (drop (at - from) insides)).found) (found_from blocks own list (at + count) 0 ((length list - at) - count) l)) (ap (λ n. drop n insides) behind ∙ sym (drop-drop count (at - from) insides))
    ∙ joined_more before (found_step blocks own list at (drop (at - from) insides)).found (found_from blocks own list (at + count) 0 ((length list - at) - count) (drop count (drop (at - from) insides)))
    ∙ ap (joined before) (sym (step_left blocks own list at (length list - at) count (drop (at - from) insides) some is))

pub found_begins : (blocks : List ℕ) (own : ℕ) (list : List Mark) (from : ℕ) (insides : List Inside) → found_behind blocks own list from insides from nothing ≡ found_from blocks own list from 0 (length list - from) insides
found_begins blocks own list from insides = let none : from - from ≡ 0 = omega arith in ap (λ n. found_from blocks own list from 0 (length list - from) (drop n insides)) none

pub found_ends : (blocks : List ℕ) (own : ℕ) (list : List Mark) (from : ℕ) (insides : List Inside) (at : ℕ) (before : Found) → length list ≤ at → before ≡ found_behind blocks own list from insides at before
found_ends blocks own list from insides at before ended =
    let none : 0 ≡ length list - at = omega arith in
    sym (joined_nothing before) ∙ ap (λ n. joined before (found_from blocks own list at 0 n (drop (at - from) insides))) none

-- a step by how many elements a use and an attribute are
abbrev pub by_lengths : ℕ → ℕ → List Mark → List Inside → Step
by_lengths used attribute marks insides =
    by_length used
    (by_length attribute
    (record { more = 0; found = record { attrs = []; uses = (first_inside insides).uses; locals = local_attributes marks insides ++ (first_inside insides).locals } })
    (λ more. record { more = more; found = record { attrs = attr_of marks insides ∷ []; uses = []; locals = [] } }))
    (λ more. record { more = more; found = record { attrs = []; uses = use_of (take (suc more) marks) ∷ []; locals = [] } })

-- a use
pub use_step : (used attribute : ℕ) (marks : List Mark) (insides : List Inside) → 0 < used → by_lengths used attribute marks insides ≡ record { more = used - 1; found = record { attrs = []; uses = use_of (take used marks) ∷ []; locals = [] } }
use_step zero attribute marks insides some = absurd (omega (arith, some))
use_step (suc more) attribute marks insides some =
    let at : more ≡ suc more - 1 = omega arith in
    ap (λ n. record { more = n; found = record { attrs = []; uses = use_of (take (suc more) marks) ∷ []; locals = [] } }) at

-- an attribute of the declaration's own
pub own_step : (used attribute : ℕ) (marks : List Mark) (insides : List Inside) → 0 ≡ used → 0 < attribute → by_lengths used attribute marks insides ≡ record { more = attribute - 1; found = record { attrs = attr_of marks insides ∷ []; uses = []; locals = [] } }
own_step (suc used) attribute marks insides none some = absurd (omega (arith, none))
own_step zero zero marks insides none some = absurd (omega (arith, some))
own_step zero (suc more) marks insides none some =
    let at : more ≡ suc more - 1 = omega arith in
    ap (λ n. record { more = n; found = record { attrs = attr_of marks insides ∷ []; uses = []; locals = [] } }) at

-- anything else
pub other_step : (used attribute : ℕ) (marks : List Mark) (insides : List Inside) → 0 ≡ used → 0 ≡ attribute → by_lengths used attribute marks insides ≡ record { more = 0; found = record { attrs = []; uses = (first_inside insides).uses; locals = local_attributes marks insides ++ (first_inside insides).locals } }
other_step (suc used) attribute marks insides none nowhere = absurd (omega (arith, none))
other_step zero (suc more) marks insides none nowhere = absurd (omega (arith, nowhere))
other_step zero zero marks insides none nowhere = refl

-- what was found before, with that of a step
pub own_found : (before : Found) (used attribute : ℕ) (marks : List Mark) (insides : List Inside) → 0 ≡ used → 0 < attribute → record { attrs = before.attrs ++ attr_of marks insides ∷ []; uses = before.uses; locals = before.locals } ≡ joined before (by_lengths used attribute marks insides).found
own_found before used attribute marks insides none some =
    ap (λ l. record { attrs = before.attrs ++ attr_of marks insides ∷ []; uses = l; locals = before.locals }) (sym (append-nil before.uses))
    ∙ ap (λ l. record { attrs = before.attrs ++ attr_of marks insides ∷ []; uses = before.uses ++ []; locals = l }) (sym (append-nil before.locals))
    ∙ ap (λ step. joined before step.found) (sym (own_step used attribute marks insides none some))

pub other_found : (before : Found) (locals : List Attr) (used attribute : ℕ) (marks : List Mark) (insides : List Inside) → 0 ≡ used → 0 ≡ attribute → locals ≡ before.locals ++ local_attributes marks insides → joined (record { attrs = before.attrs; uses = before.uses; locals = locals }) (within insides) ≡ joined before (by_lengths used attribute marks insides).found
other_found before locals used attribute marks insides none nowhere is =
    ap (λ l. record { attrs = before.attrs ++ []; uses = before.uses ++ (first_inside insides).uses; locals = l })
    (ap (λ l. l ++ (first_inside insides).locals) is ∙ append_assoc before.locals (local_attributes marks insides) (first_inside insides).locals)
    ∙ ap (λ step. joined before step.found) (sym (other_step used attribute marks insides none nowhere))
