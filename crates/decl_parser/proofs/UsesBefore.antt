-- No macro use goes as far as the braces of the members, which stand last.
use Rattle.std.proofs.Common.{◌≡◌, ◌⊎◌, inl, inr, refl, sym, ap, subst, arith, ◌∙◌, ℕ, zero, suc, ◌+◌, ◌-◌, ◌==◌, ◌<◌, ◌≤◌, List, [], ◌∷◌, ◌++◌, length, take, drop, None, Bool, true, false, ◌&&◌, not, if◌then◌else◌}
use Rattle.std.specs.Prelude.{nat_lt, nat_le, reverse, ◌≢◌}
use Rattle.std.specs.List.{list_any}
use Rattle.std.proofs.lemmas.Bool.{eqb-true, eqb-false, leb-true, leb-false, ltb-true, ltb-false}
use Rattle.std.proofs.lemmas.List.{drop-drop, length-drop}
use Rattle.element_marks.specs.declared.mark.Mark.{Mark}
use Rattle.element_marks.specs.declared.mark.Sort.{Sort}
use Rattle.element_marks.specs.declared.mark.Sort.TheVariants as sort
use Rattle.element_marks.specs.Sorts.{is_braces, is_braces_sort, is_use, is_use_sort, is_word, is_colon, is_parentheses, is_parentheses_sort, is_arguments}
use Rattle.element_marks.specs.Heads.{angles, angles_from, first_is, with_joins, with_angles, with_modifiers, with_heads, in_list}
use Rattle.element_marks.specs.Uses.{in_condition, is_closure, use_angles, labels_length, call_length, closures_length, use_length}
use Rattle.element_marks.specs.Levels.{own_marks, level}
use Rattle.swift_lexer.specs.Trees.{Forest}
use Rattle.decl_parser.proofs.ElementBytes.{both_left}
use Rattle.element_marks.specs.Heads.{attribute_length}
use Rattle.decl_parser.specs.declared.inside.Inside.{Inside}
use Rattle.decl_parser.specs.Insides.{first_inside}
use Rattle.decl_parser.specs.Found.{found_step, found_from}
use Rattle.decl_parser.specs.Nesting.{UsesLie}
use Rattle.decl_parser.proofs.Wider.{uses_join}
use Rattle.decl_parser.proofs.Ordered.{InOrder, Beside, HasAt, has_at, lies_drop, beside_drop}
use Rattle.decl_parser.proofs.FoundInOrder.{InsideLies, step_by, step_here, passed}

-- the elements end with this one
abbrev pub EndsIn : Mark → List Mark → Type 0
EndsIn braces [] = ⊥
EndsIn braces (mark ∷ []) = mark ≡ braces
EndsIn braces (mark ∷ next ∷ marks) = EndsIn braces (next ∷ marks)

ends_more : (braces mark : Mark) (marks : List Mark) → EndsIn braces marks → EndsIn braces (mark ∷ marks)
ends_more braces mark [] ends = absurd ends
ends_more braces mark (next ∷ marks) ends = ends

pub ends_in : (n : ℕ) (braces : Mark) (marks : List Mark) → drop n marks ≡ braces ∷ [] → EndsIn braces marks
ends_in zero braces marks is = subst (EndsIn braces) (sym is) refl
ends_in (suc n) braces [] is = cc
ends_in (suc n) braces (mark ∷ marks) is = ends_more braces mark marks (ends_in n braces marks is)

ends_some : (braces : Mark) (marks : List Mark) → EndsIn braces marks → 0 < length marks
ends_some braces [] ends = absurd ends
ends_some braces (mark ∷ marks) ends = omega arith

ends_drop : (n : ℕ) (braces : Mark) (marks : List Mark) → n < length marks → EndsIn braces marks → EndsIn braces (drop n marks)
ends_drop zero braces marks within ends = ends
ends_drop (suc n) braces [] within ends = absurd ends
ends_drop (suc n) braces (mark ∷ []) within ends = absurd (omega (arith, within))
ends_drop (suc n) braces (mark ∷ next ∷ marks) within ends = ends_drop n braces (next ∷ marks) (omega (arith, within)) ends

-- how many `<` and `>` the element at the place has; 1 where there is none
abbrev pub weight : ℕ → List Mark → ℕ
weight n [] = 1
weight zero (mark ∷ marks) = mark.opens + mark.closes
weight (suc n) (mark ∷ marks) = weight n marks

-- an angle part of two elements or more ends with a `<` or a `>`
abbrev pub AnglesEnd : List Mark → Type 0
AnglesEnd [] = Unit {0}
AnglesEnd (mark ∷ marks) = ((n : ℕ) → mark.angles ≡ suc (suc n) → 0 < weight n marks) × AnglesEnd marks

weight_take : (n k : ℕ) (marks : List Mark) → 0 < weight k marks → 0 < weight k (take n marks)
weight_take zero k marks some = omega arith
weight_take (suc n) k [] some = some
weight_take (suc n) zero (mark ∷ marks) some = some
weight_take (suc n) (suc k) (mark ∷ marks) some = weight_take n k marks some

pub angles_take : (n : ℕ) (marks : List Mark) → AnglesEnd marks → AnglesEnd (take n marks)
angles_take zero marks end = tt
angles_take (suc n) [] end = tt
angles_take (suc n) (mark ∷ marks) end = (λ k is. weight_take n k marks (end.0 k is), angles_take n marks end.1)

pub angles_drop : (n : ℕ) (marks : List Mark) → AnglesEnd marks → AnglesEnd (drop n marks)
angles_drop zero marks end = end
angles_drop (suc n) [] end = tt
angles_drop (suc n) (mark ∷ marks) end = angles_drop n marks end.1

weight_angles : (k : ℕ) (marks : List Mark) → weight k (with_angles marks) ≡ weight k marks
weight_angles k [] = refl
weight_angles zero (mark ∷ marks) = refl
weight_angles (suc k) (mark ∷ marks) = weight_angles k marks

weight_modifiers : (k : ℕ) (marks : List Mark) → weight k (with_modifiers marks) ≡ weight k marks
weight_modifiers k [] = refl
weight_modifiers zero (mark ∷ marks) = refl
weight_modifiers (suc k) (mark ∷ marks) = weight_modifiers k marks

weight_heads : (k : ℕ) (marks : List Mark) → weight k (with_heads marks) ≡ weight k marks
weight_heads k [] = refl
weight_heads zero (mark ∷ marks) = refl
weight_heads (suc k) (mark ∷ marks) = weight_heads k marks

-- a part that ends has more elements than stand before
ends_behind : (count opened closed more : ℕ) (marks : List Mark) → angles_from count opened closed marks ≡ suc more → count ≤ more
ends_behind count opened closed more [] is = absurd (omega (arith, is))
ends_behind count opened closed more (mark ∷ marks) is =
    elim ((opened + mark.opens) == (closed + mark.closes)) as (λ b. (if b then suc count else angles_from (suc count) (opened + mark.opens) (closed + mark.closes) marks) ≡ suc more → count ≤ more) [
      | true ↦ λ here. omega (arith, here)
      | false ↦ λ later. omega (arith, ends_behind (suc count) (opened + mark.opens) (closed + mark.closes) more marks later)
    ] is

-- the depth changes with the last element
ends_weigh : (count opened closed k : ℕ) (marks : List Mark) → (opened ≡ closed → ⊥) → angles_from count opened closed marks ≡ suc (count + k) → 0 < weight k marks
ends_weigh count opened closed k [] differ is = omega arith
ends_weigh count opened closed k (mark ∷ marks) differ is =
    elim ((opened + mark.opens) == (closed + mark.closes)) as (λ b. ((opened + mark.opens) == (closed + mark.closes)) ≡ b → (if b then suc count else angles_from (suc count) (opened + mark.opens) (closed + mark.closes) marks) ≡ suc (count + k) → 0 < weight k (mark ∷ marks)) [
      | true ↦ λ same here. first_weighs opened closed k mark marks differ (eqb-true _ _ same) (omega (arith, here))
      | false ↦ λ differs later. later_weighs count opened closed k mark marks later (λ further is_further. ends_weigh (suc count) (opened + mark.opens) (closed + mark.closes) further marks (eqb-false _ _ differs) is_further)
    ] refl is
  where
    first_weighs : (opened closed k : ℕ) (mark : Mark) (marks : List Mark) → (opened ≡ closed → ⊥) → opened + mark.opens ≡ closed + mark.closes → k ≡ 0 → 0 < weight k (mark ∷ marks)
    first_weighs opened closed zero mark marks differ same is = let apart : opened ≢ closed = differ in omega (arith, same)
    first_weighs opened closed (suc k) mark marks differ same is = absurd (omega (arith, is))

    later_weighs : (count opened closed k : ℕ) (mark : Mark) (marks : List Mark) → angles_from (suc count) (opened + mark.opens) (closed + mark.closes) marks ≡ suc (count + k) → ((further : ℕ) → angles_from (suc count) (opened + mark.opens) (closed + mark.closes) marks ≡ suc (suc count + further) → 0 < weight further marks) → 0 < weight k (mark ∷ marks)
    later_weighs count opened closed zero mark marks is rest = absurd (omega (arith, ends_behind (suc count) (opened + mark.opens) (closed + mark.closes) (count + 0) marks is))
    later_weighs count opened closed (suc k) mark marks is rest = let same : suc (count + suc k) ≡ suc (suc count + k) = omega arith in rest k (is ∙ same)

first_ends : (mark : Mark) (marks : List Mark) (k : ℕ) → angles (mark ∷ marks) ≡ suc (suc k) → 0 < weight k marks
unfolding angles
first_ends mark marks k is =
    elim mark.begins_angle as (λ b. (if b then angles_from 0 0 0 (mark ∷ marks) else 0) ≡ suc (suc k) → 0 < weight k marks) [
      | true ↦ λ part.
          elim ((0 + mark.opens) == (0 + mark.closes)) as (λ b. ((0 + mark.opens) == (0 + mark.closes)) ≡ b → (if b then 1 else angles_from 1 (0 + mark.opens) (0 + mark.closes) marks) ≡ suc (suc k) → 0 < weight k marks) [
            | true ↦ λ same here. absurd (omega (arith, here))
            | false ↦ λ differs later. let more : suc (suc k) ≡ suc (1 + k) = omega arith in ends_weigh 1 (0 + mark.opens) (0 + mark.closes) k marks (eqb-false _ _ differs) (later ∙ more)
          ] refl part
      | false ↦ λ none. absurd (omega (arith, none))
    ] is

own_angles : (marks : List Mark) → AnglesEnd (with_angles marks)
own_angles [] = tt
own_angles (mark ∷ marks) = (λ k is. subst (λ n. 0 < n) (sym (weight_angles k marks)) (first_ends mark marks k is), own_angles marks)

modifiers_end : (marks : List Mark) → AnglesEnd marks → AnglesEnd (with_modifiers marks)
modifiers_end [] end = tt
modifiers_end (mark ∷ marks) end = (λ k is. subst (λ n. 0 < n) (sym (weight_modifiers k marks)) (end.0 k is), modifiers_end marks end.1)

heads_end : (marks : List Mark) → AnglesEnd marks → AnglesEnd (with_heads marks)
heads_end [] end = tt
heads_end (mark ∷ marks) end = (λ k is. subst (λ n. 0 < n) (sym (weight_heads k marks)) (end.0 k is), heads_end marks end.1)

pub level_angles : (text : List ℕ) (forest : Forest) → AnglesEnd (level text forest)
unfolding level in_list
level_angles text forest =
    let marks = with_joins None (own_marks text forest) in
    heads_end (with_modifiers (with_angles marks)) (modifiers_end (with_angles marks) (own_angles marks))

weight_last : (braces : Mark) (k : ℕ) (marks : List Mark) → EndsIn braces marks → suc k ≡ length marks → weight k marks ≡ braces.opens + braces.closes
weight_last braces k [] ends is = absurd ends
weight_last braces zero (mark ∷ []) ends is = ap (λ m. m.opens + m.closes) ends
weight_last braces (suc k) (mark ∷ []) ends is = absurd (omega (arith, is))
weight_last braces zero (mark ∷ next ∷ marks) ends is = absurd (omega (arith, is))
weight_last braces (suc k) (mark ∷ next ∷ marks) ends is = weight_last braces k (next ∷ marks) ends (omega (arith, is))

both_right : (a b : Bool) → (a && b) ≡ true → b ≡ true
both_right true b is = is
both_right false b is = cc

-- the braces of the members: plain, and one of the blocks
pub record AreLast (blocks : List ℕ) (braces : Mark) : Type 0 where
  pub braced : is_braces braces ≡ true
  pub plain : (braces.begins_angle ≡ false) × (braces.opens ≡ 0) × (braces.closes ≡ 0)
  pub known : list_any (λ block. block == braces.start) blocks ≡ true

module _ (blocks : List ℕ) (braces : Mark) (last : AreLast blocks braces) where
  no_closure : (mark : Mark) → mark ≡ braces → is_closure blocks mark ≡ false
  no_closure mark same =
      subst (λ m. is_closure blocks m ≡ false) (sym same) (subst (λ b. (is_braces braces && not braces.first && not b) ≡ false) (sym last.known) (all_false (is_braces braces) (not braces.first)))
    where
      all_false : (a b : Bool) → (a && b && false) ≡ false
      all_false true true = refl
      all_false true false = refl
      all_false false b = refl

  -- an angle part ends before
  angles_short : (marks : List Mark) → EndsIn braces marks → AnglesEnd marks → use_angles marks < length marks
  angles_short [] ends end = absurd ends
  angles_short (mark ∷ marks) ends end =
      elim (mark.begins_angle && not mark.spaced && nat_le mark.angles (suc (length marks))) as (λ b. (mark.begins_angle && not mark.spaced && nat_le mark.angles (suc (length marks))) ≡ b → (if b then mark.angles else 0) < suc (length marks)) [
        | true ↦ λ is.
            let starts = both_left (mark.begins_angle && not mark.spaced) (nat_le mark.angles (suc (length marks))) is in
            part_short mark marks ends end (both_left mark.begins_angle (not mark.spaced) starts) (leb-true mark.angles (suc (length marks)) (both_right (mark.begins_angle && not mark.spaced) (nat_le mark.angles (suc (length marks))) is))
        | false ↦ λ is. omega arith
      ] refl
    where
      part_short : (mark : Mark) (marks : List Mark) → EndsIn braces (mark ∷ marks) → AnglesEnd (mark ∷ marks) → mark.begins_angle ≡ true → mark.angles ≤ suc (length marks) → mark.angles < suc (length marks)
      part_short mark [] ends end begins less =
          let same : mark.begins_angle ≡ false = ap (λ m. m.begins_angle) ends ∙ last.plain.0 in
          cc
      part_short mark (next ∷ marks) ends end begins less =
          elim (nat_le (suc (suc (length marks))) mark.angles) as (λ b. nat_le (suc (suc (length marks))) mark.angles ≡ b → mark.angles < suc (suc (length marks))) [
            | true ↦ λ more.
                let whole : mark.angles ≡ suc (suc (length marks)) = omega (arith, less, leb-true (suc (suc (length marks))) mark.angles more) in
                absurd (omega (arith, end.0 (length marks) whole, weight_last braces (length marks) (next ∷ marks) ends refl, last.plain.1, last.plain.2))
            | false ↦ λ fewer. omega (arith, leb-false (suc (suc (length marks))) mark.angles fewer)
          ] refl

  no_arguments : is_arguments braces ≡ false
  no_arguments = elim (is_parentheses braces) as (λ b. is_parentheses braces ≡ b → (b && not braces.first) ≡ false) [
    | true ↦ λ is. not_both (braces.sort) last.braced is
    | false ↦ λ is. refl
  ] refl
    where
      not_both : {A : Type 0} (of_sort : Sort) → is_braces_sort of_sort ≡ true → is_parentheses_sort of_sort ≡ true → A
      not_both sort.Braces is also = cc
      not_both _ is also = cc

  -- so do arguments
  call_short : (marks : List Mark) → EndsIn braces marks → AnglesEnd marks → call_length marks < length marks
  call_short marks ends end =
      let n = use_angles marks in
      let short = angles_short marks ends end in
      arguments_short n (drop n marks) (length marks) (ends_drop n braces marks short ends) (omega (arith, length-drop n marks, short)) short
    where
      arguments_short : (n : ℕ) (rest : List Mark) (total : ℕ) → EndsIn braces rest → n + length rest ≡ total → n < total → (if first_is is_arguments rest then suc n else n) < total
      arguments_short n [] total ends is less = absurd ends
      arguments_short n (mark ∷ []) total ends is less =
          let none : is_arguments mark ≡ false = ap is_arguments ends ∙ no_arguments in
          subst (λ b. (if b then suc n else n) < total) (sym none) less
      arguments_short n (mark ∷ next ∷ marks) total ends is less =
          elim (is_arguments mark) as (λ b. (if b then suc n else n) < total) [ true ↦ omega (arith, is) | false ↦ less ]

  if_less : (b : Bool) (n total : ℕ) → 0 < total → (b ≡ true → n < total) → (if b then n else 0) < total
  if_less true n total some less = less refl
  if_less false n total some less = some

  -- so do closures and their labels
  labels_short : (marks : List Mark) → EndsIn braces marks → labels_length blocks marks < length marks
  labels_short [] ends = absurd ends
  labels_short (label ∷ []) ends = omega arith
  labels_short (label ∷ colon ∷ []) ends = omega arith
  labels_short (label ∷ colon ∷ closure ∷ []) ends =
      let none = no_closure closure ends in
      if_less _ (suc (suc (suc 0))) 3 (omega arith) (λ is. let closes : is_closure blocks closure ≡ true = both_right (is_word label && not label.first && is_colon colon && not colon.first) (is_closure blocks closure) is in cc)
  labels_short (label ∷ colon ∷ closure ∷ next ∷ marks) ends =
      let further = labels_short (next ∷ marks) ends in
      if_less (is_word label && not label.first && is_colon colon && not colon.first && is_closure blocks closure) (suc (suc (suc (labels_length blocks (next ∷ marks))))) _ (omega arith) (λ is. omega (arith, further))

  closures_short : (before marks : List Mark) → EndsIn braces marks → closures_length blocks before marks < length marks
  closures_short before [] ends = absurd ends
  closures_short before (mark ∷ []) ends =
      let none = no_closure mark ends in
      if_less (is_closure blocks mark && not (in_condition before)) 1 1 (omega arith) (λ is. let closes : is_closure blocks mark ≡ true = both_left (is_closure blocks mark) (not (in_condition before)) is in cc)
  closures_short before (mark ∷ next ∷ marks) ends =
      let further = labels_short (next ∷ marks) ends in
      if_less (is_closure blocks mark && not (in_condition before)) (suc (labels_length blocks (next ∷ marks))) _ (omega arith) (λ is. omega (arith, further))

  -- a use with the elements behind its `#` word
  pub use_short : (before : List Mark) (mark : Mark) (marks : List Mark) (more : ℕ) → use_length blocks before (mark ∷ marks) ≡ suc more → EndsIn braces marks → AnglesEnd marks → more < length marks
  unfolding use_length
  use_short before mark marks more is ends end =
      let call = call_length marks in
      let short = call_short marks ends end in
      let closures = closures_short before (drop call marks) (ends_drop call braces marks short ends) in
      omega (arith, (passed (is_use mark) (call + closures_length blocks before (drop call marks)) more is).1, closures, length-drop call marks, short)

  -- the braces are no use
  pub no_use : (before : List Mark) (mark : Mark) (marks : List Mark) → mark ≡ braces → use_length blocks before (mark ∷ marks) ≡ 0
  unfolding use_length
  no_use before mark marks same =
      let braced : is_braces_sort mark.sort ≡ true = ap (λ m. is_braces_sort m.sort) same ∙ last.braced in
      ap (λ b. if b then suc (call_length marks + closures_length blocks before (drop (call_length marks) marks)) else 0) (plain_use mark.sort braced)
    where
      plain_use : (of_sort : Sort) → is_braces_sort of_sort ≡ true → is_use_sort of_sort ≡ false
      plain_use sort.Braces is = refl
      plain_use sort.Pound is = cc
      plain_use _ is = cc

-- the step at an element takes no use, or ends before the last
step_short : (use_ attribute room : ℕ) (marks : List Mark) (insides : List Inside) → ((more : ℕ) → use_ ≡ suc more → more < room) → 0 < room → ((step_by use_ attribute marks insides).found.uses ≡ []) ⊎ ((step_by use_ attribute marks insides).more < room)
step_short zero zero room marks insides short some = inr some
step_short zero (suc more) room marks insides short some = inl refl
step_short (suc more) attribute room marks insides short some = inr (short more refl)

step_bare : (use_ attribute : ℕ) (marks : List Mark) (insides : List Inside) → use_ ≡ 0 → (first_inside insides).uses ≡ [] → (step_by use_ attribute marks insides).found.uses ≡ []
step_bare zero zero marks insides none bare = bare
step_bare zero (suc more) marks insides none bare = refl
step_bare (suc more) attribute marks insides none bare = absurd (omega (arith, none))

module _ (blocks : List ℕ) (own : ℕ) (list : List Mark) (to : ℕ) (braces : Mark) (last : AreLast blocks braces) (n : ℕ) (long : suc n ≡ length list) (at_end : drop n list ≡ braces ∷ []) (angled : AnglesEnd list) where
  before_last : (from k : ℕ) → k ≤ n → InOrder from (drop k list) to → from ≤ braces.start
  before_last from k less lies =
      let there : k + (n - k) ≡ n = omega (arith, less) in
      let rest : InOrder from (braces ∷ []) to = subst (λ l. InOrder from l to) (drop-drop (n - k) k list ∙ ap (λ m. drop m list) there ∙ at_end) (lies_drop (n - k) from to (drop k list) lies) in
      rest.0

  -- nothing stands in the braces
  abbrev Bare : ℕ → List Inside → Type 0
  Bare at insides = at ≤ n → (first_inside (drop (n - at) insides)).uses ≡ []

  bare_behind : (at : ℕ) (insides : List Inside) → Bare at insides → Bare (suc at) (drop 1 insides)
  bare_behind at insides bare within =
      let there : 1 + (n - suc at) ≡ n - at = omega (arith, within) in
      ap (λ l. (first_inside l).uses) (drop-drop (n - suc at) 1 insides ∙ ap (λ m. drop m insides) there) ∙ bare (omega (arith, within))

  abbrev Shortly : ℕ → List Inside → Type 0
  Shortly at insides = ((found_step blocks own list at insides).found.uses ≡ []) ⊎ (suc at + (found_step blocks own list at insides).more ≤ n)

  step_ends : (at : ℕ) (insides : List Inside) → at ≤ n → HasAt list at → Bare at insides → Shortly at insides
  step_ends at insides within here bare =
      let before = reverse (take at list) in
      let use_ = use_length blocks before (drop at list) in
      let attribute = if nat_lt at own then attribute_length (drop at list) else 0 in
      elim (nat_lt at n) as (λ b. nat_lt at n ≡ b → ((found_step blocks own list at insides).found.uses ≡ []) ⊎ (suc at + (found_step blocks own list at insides).more ≤ n)) [
        | true ↦ λ is.
            let less = ltb-true at n is in
            let long_is : length here.marks ≡ n - at = omega (arith, ap length (sym here.behind), length-drop (suc at) list, long) in
            let there : suc at + (n - suc at) ≡ n = omega (arith, less) in
            let ends : EndsIn braces here.marks = ends_in (n - suc at) braces here.marks (ap (drop (n - suc at)) (sym here.behind) ∙ drop-drop (n - suc at) (suc at) list ∙ ap (λ m. drop m list) there ∙ at_end) in
            let end : AnglesEnd here.marks = subst AnglesEnd here.behind (angles_drop (suc at) list angled) in
            let short : (more : ℕ) → use_ ≡ suc more → more < n - at = λ more is. omega (arith, use_short blocks braces last before here.mark here.marks more (ap (use_length blocks before) (sym here.here) ∙ is) ends end, long_is) in
            either at (step_short use_ attribute (n - at) (drop at list) insides short (omega (arith, less))) less
        | false ↦ λ is.
            let same : at ≡ n = omega (arith, within, ltb-false at n is) in
            let none : n - at ≡ 0 = omega (arith, same) in
            let first : here.mark ∷ here.marks ≡ braces ∷ [] = sym here.here ∙ ap (λ m. drop m list) same ∙ at_end in
            let braced : here.mark ≡ braces = cc in
            inl (step_bare use_ attribute (drop at list) insides (ap (use_length blocks before) here.here ∙ no_use blocks braces last before here.mark here.marks braced) (ap (λ m. (first_inside (drop m insides)).uses) (sym none) ∙ bare within))
      ] refl
    where
      either : {A : Type 0} {more : ℕ} (at : ℕ) → A ⊎ (more < n - at) → at < n → A ⊎ (suc at + more ≤ n)
      either at (inl none) less = inl none
      either at (inr short) less = inr (omega (arith, short, less))

  pub uses_end : (at inside left : ℕ) (insides : List Inside) (from : ℕ) → at + left ≡ length list → InOrder from (drop (at + inside) list) to → Beside InsideLies (drop at list) insides → Bare at insides → UsesLie from (found_from blocks own list at inside left insides).uses braces.start
  uses_end at inside zero insides from all lies holds bare = tt
  uses_end at (suc inside) (suc left) insides from all lies holds bare =
      let here = has_at list at (omega (arith, all)) in
      let same : at + suc inside ≡ suc at + inside = omega arith in
      uses_end (suc at) inside left (drop 1 insides) from (omega (arith, all)) (subst (λ n. InOrder from (drop n list) to) same lies)
      (subst (λ l. Beside InsideLies l (drop 1 insides)) (sym here.behind) (beside_drop InsideLies 1 (here.mark ∷ here.marks) insides (subst (λ l. Beside InsideLies l insides) here.here holds))) (bare_behind at insides bare)
  uses_end at zero (suc left) insides from all lies holds bare =
      let here = has_at list at (omega (arith, all)) in
      let at_once : at + 0 ≡ at = omega arith in
      let first_lies : InOrder from (drop at list) to = subst (λ n. InOrder from (drop n list) to) at_once lies in
      let step = step_here blocks own list to at insides from here first_lies holds in
      let now = (found_step blocks own list at insides).found in
      let more = (found_step blocks own list at insides).more in
      let rest_holds : Beside InsideLies (drop (suc at) list) (drop 1 insides) = subst (λ l. Beside InsideLies l (drop 1 insides)) (sym here.behind) (beside_drop InsideLies 1 (here.mark ∷ here.marks) insides (subst (λ l. Beside InsideLies l insides) here.here holds)) in
      let further : (start : ℕ) → InOrder start (drop (suc at + more) list) to → UsesLie start (found_from blocks own list (suc at) more left (drop 1 insides)).uses braces.start =
      λ start behind. uses_end (suc at) more left (drop 1 insides) start (omega (arith, all)) behind rest_holds (bare_behind at insides bare) in
      let there : at + suc more ≡ suc at + more = omega arith in
      elim (step_ends at insides (omega (arith, all, long)) here bare) [
        | inl none ↦ subst (λ l. UsesLie from (l ++ (found_from blocks own list (suc at) more left (drop 1 insides)).uses) braces.start) (sym none)
            (further from (subst (λ l. InOrder from l to) (drop-drop (suc more) at list ∙ ap (λ m. drop m list) there) (lies_drop (suc more) from to (drop at list) first_lies)))
        | inr short ↦
            let behind : InOrder step.middle (drop (suc at + more) list) to = subst (λ l. InOrder step.middle l to) (ap (drop more) (sym here.behind) ∙ drop-drop more (suc at) list) step.behind in
            uses_join from step.middle braces.start now.uses (found_from blocks own list (suc at) more left (drop 1 insides)).uses step.first (before_last step.middle (suc at + more) short behind) step.uses (further step.middle behind)
      ]
