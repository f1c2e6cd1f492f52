-- The attributes of a declaration end before its starter.
use Rattle.std.proofs.Common.{◌≡◌, ◌⊎◌, inl, inr, refl, sym, ap, subst, arith, ◌∙◌, ℕ, zero, suc, ◌+◌, ◌-◌, ◌<◌, ◌≤◌, List, [], ◌∷◌, ◌++◌, length, take, drop, Option, Some, None, Bool, true, false, ◌&&◌, ◌||◌, not, if◌then◌else◌}
use Rattle.std.specs.Prelude.{nat_lt, reverse}
use Rattle.std.proofs.lemmas.Bool.{ltb-true, ltb-false, lt-ltb}
use Rattle.std.proofs.lemmas.List.{drop-drop, drop-take, length-take}
use Rattle.swift_lexer.specs.declared.token.Class.{Class}
use Rattle.swift_lexer.specs.Tiles.{bytes_of}
use Rattle.swift_lexer.specs.Trees.{Tree, leaf, nest, Forest, none, cons}
use Rattle.element_marks.specs.declared.words.Keyword.TheVariants.{Plain}
use Rattle.element_marks.specs.declared.mark.Mark.{Mark}
use Rattle.element_marks.specs.declared.mark.Sort.{Sort}
use Rattle.element_marks.specs.declared.mark.Sort.TheVariants as sort
use Rattle.element_marks.specs.Words.{is_modifier, is_class, is_class_member}
use Rattle.element_marks.specs.Sorts.{is_use, is_use_sort, is_at, is_at_sort, is_name, is_dot, is_word, is_parentheses, is_parentheses_sort, is_arguments}
use Rattle.element_marks.specs.Spans.{end_of}
use Rattle.element_marks.specs.Marks.{mark_of, mark_between, leaf_sort, leaf_keyword}
use Rattle.element_marks.specs.Heads.{by_length, first_is, first_angles, dots_length, name_tail, attribute_length, modifies, modifier_length, prefix_length, starts, head_from, with_joins, with_angles, with_modifiers, with_heads, in_list}
use Rattle.element_marks.specs.Uses.{call_length, closures_length, use_length}
use Rattle.element_marks.specs.Passes.{HeadsKnown}
use Rattle.element_marks.proofs.Starting.{heads_known}
use Rattle.element_marks.specs.Levels.{own_marks, level}
use Rattle.decl_parser.specs.declared.inside.Inside.{Inside}
use Rattle.decl_parser.specs.Found.{found_step, found_from}
use Rattle.decl_parser.specs.Nesting.{AttrsLie}
use Rattle.decl_parser.proofs.ElementBytes.{both_left, use_class}
use Rattle.decl_parser.proofs.Wider.{attrs_join}
use Rattle.decl_parser.proofs.Ordered.{InOrder, Beside, HasAt, has_at, end_at, lies_drop, beside_drop}
use Rattle.decl_parser.proofs.FoundInOrder.{InsideLies, step_by, step_here, passed}

-- a macro's `#` word is no modifier
abbrev pub NoModifiers : List Mark → Type 0
NoModifiers [] = Unit {0}
NoModifiers (mark ∷ marks) = (is_use mark ≡ true → mark.modifies ≡ false) × NoModifiers marks

abbrev PlainUses : List Mark → Type 0
PlainUses [] = Unit {0}
PlainUses (mark ∷ marks) = (is_use mark ≡ true → mark.keyword ≡ Plain) × PlainUses marks

plain_keyword : (of_class : Class) (bytes : List ℕ) → is_use_sort (leaf_sort of_class bytes) ≡ true → leaf_keyword of_class bytes ≡ Plain
plain_keyword of_class bytes is = ap (λ c. leaf_keyword c bytes) (use_class of_class bytes is)

use_plain : (text : List ℕ) (tree : Tree) → is_use (mark_of text tree) ≡ true → (mark_of text tree).keyword ≡ Plain
unfolding mark_between
use_plain text (leaf token) is = plain_keyword token.class (bytes_of text token) is
use_plain text (nest left inner right) is = plain_keyword left.class (bytes_of text left) is

own_plain : (text : List ℕ) (forest : Forest) → PlainUses (own_marks text forest)
own_plain text none = tt
own_plain text (cons tree forest) = (use_plain text tree, own_plain text forest)

joins_plain : (previous : Option Mark) (marks : List Mark) → PlainUses marks → PlainUses (with_joins previous marks)
joins_plain previous [] plain = tt
joins_plain previous (mark ∷ marks) plain = (plain.0, joins_plain (Some mark) marks plain.1)

angles_plain : (marks : List Mark) → PlainUses marks → PlainUses (with_angles marks)
angles_plain [] plain = tt
angles_plain (mark ∷ marks) plain = (plain.0, angles_plain marks plain.1)

no_modifier : (mark : Mark) (marks : List Mark) → mark.keyword ≡ Plain → modifies (mark ∷ marks) ≡ false
no_modifier mark marks is = ap (λ k. is_modifier k || (is_class k && (modifies marks || first_is (λ next. is_class_member next.keyword) marks))) is

modifiers_plain : (marks : List Mark) → PlainUses marks → NoModifiers (with_modifiers marks)
modifiers_plain [] plain = tt
modifiers_plain (mark ∷ marks) plain = (λ is. no_modifier mark marks (plain.0 is), modifiers_plain marks plain.1)

heads_plain : (marks : List Mark) → NoModifiers marks → NoModifiers (with_heads marks)
heads_plain [] plain = tt
heads_plain (mark ∷ marks) plain = (plain.0, heads_plain marks plain.1)

pub level_modifiers : (text : List ℕ) (forest : Forest) → NoModifiers (level text forest)
unfolding level in_list
level_modifiers text forest =
    let own = own_marks text forest in
    heads_plain (with_modifiers (with_angles (with_joins None own))) (modifiers_plain (with_angles (with_joins None own)) (angles_plain (with_joins None own) (joins_plain None own (own_plain text forest))))

pub level_heads : (text : List ℕ) (forest : Forest) → HeadsKnown (level text forest)
unfolding level in_list
level_heads text forest = heads_known (with_modifiers (with_angles (with_joins None (own_marks text forest))))

modifiers_drop : (n : ℕ) (marks : List Mark) → NoModifiers marks → NoModifiers (drop n marks)
modifiers_drop zero marks plain = plain
modifiers_drop (suc n) [] plain = tt
modifiers_drop (suc n) (mark ∷ marks) plain = modifiers_drop n marks plain.1

-- where no attribute begins, none does in the first elements
if_none : (b : Bool) (n m : ℕ) → (if b then suc n else 0) ≡ 0 → (if b then suc m else 0) ≡ 0
if_none true n m is = absurd (omega (arith, is))
if_none false n m is = refl

none_cut : (k : ℕ) (marks : List Mark) → attribute_length marks ≡ 0 → attribute_length (take k marks) ≡ 0
unfolding attribute_length
none_cut zero marks is = refl
none_cut (suc k) [] is = refl
none_cut (suc zero) (at ∷ []) is = refl
none_cut (suc (suc k)) (at ∷ []) is = refl
none_cut (suc zero) (at ∷ name ∷ marks) is = refl
none_cut (suc (suc k)) (at ∷ name ∷ marks) is = if_none (is_at at && is_name name) (suc (name_tail marks)) (suc (name_tail (take k marks))) is

-- an attribute is one also in the first elements, where these hold it
drop_cut : (n k : ℕ) (marks : List Mark) → n ≤ k → drop n (take k marks) ≡ take (k - n) (drop n marks)
drop_cut n k marks less = let there : k ≡ n + (k - n) = omega (arith, less) in ap (λ m. drop n (take m marks)) there ∙ drop-take n (k - n) marks

dots_cut : (k : ℕ) (marks : List Mark) → dots_length marks ≤ k → dots_length (take k marks) ≡ dots_length marks
dots_cut zero marks less = omega (arith, less)
dots_cut (suc k) [] less = refl
dots_cut (suc zero) (dot ∷ []) less = refl
dots_cut (suc (suc k)) (dot ∷ []) less = refl
dots_cut (suc zero) (dot ∷ word ∷ marks) less = one (is_dot dot && is_word word) (dots_length marks) less
  where
    one : (b : Bool) (n : ℕ) → (if b then suc (suc n) else 0) ≤ 1 → 0 ≡ (if b then suc (suc n) else 0)
    one true n less = absurd (omega (arith, less))
    one false n less = refl
dots_cut (suc (suc k)) (dot ∷ word ∷ marks) less = two (is_dot dot && is_word word) less (λ fewer. dots_cut k marks fewer)
  where
    two : (b : Bool) → (if b then suc (suc (dots_length marks)) else 0) ≤ suc (suc k) → (dots_length marks ≤ k → dots_length (take k marks) ≡ dots_length marks) → (if b then suc (suc (dots_length (take k marks))) else 0) ≡ (if b then suc (suc (dots_length marks)) else 0)
    two true less rest = ap (λ n. suc (suc n)) (rest (omega (arith, less)))
    two false less rest = refl

angles_cut : (k : ℕ) (marks : List Mark) → first_angles marks ≤ k → first_angles (take k marks) ≡ first_angles marks
angles_cut zero marks less = omega (arith, less)
angles_cut (suc k) [] less = refl
angles_cut (suc k) (mark ∷ marks) less = omega (arith, less, length-take k marks)

first_cut : (test : Mark → Bool) (k : ℕ) (marks : List Mark) → 0 < k → first_is test (take k marks) ≡ first_is test marks
first_cut test zero marks some = absurd (omega (arith, some))
first_cut test (suc k) [] some = refl
first_cut test (suc k) (mark ∷ marks) some = refl

tail_cut : (k : ℕ) (marks : List Mark) → name_tail marks ≤ k → name_tail (take k marks) ≡ name_tail marks
tail_cut k marks less =
    let dots = dots_length marks in
    let named = dots + first_angles (drop dots marks) in
    let fewer : named ≤ k = grows named k (first_is is_parentheses (drop named marks)) less in
    let same_dots : dots_length (take k marks) ≡ dots = dots_cut k marks (omega (arith, fewer)) in
    let same_angles : first_angles (drop dots (take k marks)) ≡ first_angles (drop dots marks) = ap first_angles (drop_cut dots k marks (omega (arith, fewer))) ∙ angles_cut (k - dots) (drop dots marks) (omega (arith, fewer)) in
    ap (λ n. let named = n + first_angles (drop n (take k marks)) in if first_is is_parentheses (drop named (take k marks)) then suc named else named) same_dots
    ∙ ap (λ n. let named = dots + n in if first_is is_parentheses (drop named (take k marks)) then suc named else named) same_angles
    ∙ ends named k (drop named marks) (drop named (take k marks)) (drop_cut named k marks fewer) less
  where
    grows : (n k : ℕ) (b : Bool) → (if b then suc n else n) ≤ k → n ≤ k
    grows n k true less = omega (arith, less)
    grows n k false less = less

    ends : (n k : ℕ) (rest cut : List Mark) → cut ≡ take (k - n) rest → (if first_is is_parentheses rest then suc n else n) ≤ k → (if first_is is_parentheses cut then suc n else n) ≡ (if first_is is_parentheses rest then suc n else n)
    ends n k rest cut is less =
        elim (nat_lt 0 (k - n)) as (λ b. nat_lt 0 (k - n) ≡ b → (if first_is is_parentheses cut then suc n else n) ≡ (if first_is is_parentheses rest then suc n else n)) [
          | true ↦ λ some. ap (λ b. if b then suc n else n) (ap (first_is is_parentheses) is ∙ first_cut is_parentheses (k - n) rest (ltb-true 0 (k - n) some))
          | false ↦ λ none_. let empty : k - n ≡ 0 = omega (arith, ltb-false 0 (k - n) none_) in
              ap (λ l. if first_is is_parentheses l then suc n else n) (is ∙ ap (λ m. take m rest) empty) ∙ full (first_is is_parentheses rest) less empty
        ] refl
      where
        full : (b : Bool) → (if b then suc n else n) ≤ k → k - n ≡ 0 → n ≡ (if b then suc n else n)
        full true less empty = absurd (omega (arith, less, empty))
        full false less empty = refl

same_cut : (k more : ℕ) (marks : List Mark) → attribute_length marks ≡ suc more → suc more ≤ k → attribute_length (take k marks) ≡ suc more
unfolding attribute_length
same_cut k more [] is less = absurd (omega (arith, is))
same_cut k more (at ∷ []) is less = absurd (omega (arith, is))
same_cut zero more (at ∷ name ∷ marks) is less = absurd (omega (arith, less))
same_cut (suc zero) more (at ∷ name ∷ marks) is less =
    let parts = passed (is_at at && is_name name) (suc (name_tail marks)) more is in absurd (omega (arith, parts.1, less))
same_cut (suc (suc k)) more (at ∷ name ∷ marks) is less =
    let parts = passed (is_at at && is_name name) (suc (name_tail marks)) more is in
    ap (λ n. if is_at at && is_name name then suc (suc n) else 0) (tail_cut k marks (omega (arith, parts.1, less))) ∙ is

-- a head ends behind each of its parts
head_ends : (c inside h : ℕ) (marks : List Mark) → head_from c inside marks ≡ h → 0 < h → c + inside < h
head_ends c inside h [] is some = absurd (omega (arith, is, some))
head_ends c (suc inside) h (mark ∷ marks) is some = omega (arith, head_ends (suc c) inside h marks is some)
head_ends c zero h (mark ∷ marks) is some =
    elim (prefix_length (mark ∷ marks)) as (λ n. by_length n (if starts (mark ∷ marks) then suc c else 0) (λ more. head_from (suc c) more marks) ≡ h → c + 0 < h) [
      | zero ↦ λ here. by_start (starts (mark ∷ marks)) here
      | suc more ↦ λ later. omega (arith, head_ends (suc c) more h marks later some)
    ] is
  where
    by_start : (b : Bool) → (if b then suc c else 0) ≡ h → c + 0 < h
    by_start true here = omega (arith, here)
    by_start false here = absurd (omega (arith, here, some))

no_use_here : (blocks : List ℕ) (before : List Mark) (mark : Mark) (marks : List Mark) → is_use mark ≡ false → use_length blocks before (mark ∷ marks) ≡ 0
unfolding use_length
no_use_here blocks before mark marks is = ap (λ b. if b then suc (call_length marks + closures_length blocks before (drop (call_length marks) marks)) else 0) is

at_no_use : (mark : Mark) → is_at mark ≡ true → is_use mark ≡ false
at_no_use mark is = by_sort mark.sort is
  where
    by_sort : (of_sort : Sort) → is_at_sort of_sort ≡ true → is_use_sort of_sort ≡ false
    by_sort sort.At is = refl
    by_sort sort.Pound is = cc
    by_sort _ is = cc

arguments_plain : (mark : Mark) → is_arguments mark ≡ true → (is_use mark ≡ false) × (is_at mark ≡ false)
arguments_plain mark is = by_sort mark.sort (both_left (is_parentheses mark) (not mark.first) is)
  where
    by_sort : (of_sort : Sort) → is_parentheses_sort of_sort ≡ true → (is_use_sort of_sort ≡ false) × (is_at_sort of_sort ≡ false)
    by_sort sort.Parentheses is = (refl, refl)
    by_sort _ is = cc

begins_at : (mark : Mark) (marks : List Mark) (more : ℕ) → attribute_length (mark ∷ marks) ≡ suc more → is_at mark ≡ true
unfolding attribute_length
begins_at mark [] more is = absurd (omega (arith, is))
begins_at mark (name ∷ marks) more is = both_left (is_at mark) (is_name name) (passed (is_at mark && is_name name) (suc (name_tail marks)) more is).0

no_at : (mark : Mark) (marks : List Mark) → is_at mark ≡ false → attribute_length (mark ∷ marks) ≡ 0
unfolding attribute_length
no_at mark [] is = refl
no_at mark (name ∷ marks) is = ap (λ b. if b && is_name name then suc (suc (name_tail marks)) else 0) is

not_used : (mark : Mark) → (is_use mark ≡ true → mark.modifies ≡ false) → mark.modifies ≡ true → is_use mark ≡ false
not_used mark plain is =
    elim (is_use mark) as (λ b. is_use mark ≡ b → b ≡ false) [
      | true ↦ λ used. let not_ : mark.modifies ≡ false = plain used in cc
      | false ↦ λ unused. refl
    ] refl

-- a list up to its place `end`, and the head of `h` elements that begins at the place `at`
module _ (whole : List Mark) (at h end : ℕ) (some : 0 < h) (within : at + h ≤ end) (plain : NoModifiers whole) where
  -- on the way through the head
  record OnHead (pos inside : ℕ) : Type 0 where
    count : ℕ
    place : pos ≡ at + count
    walk : head_from count inside (drop pos whole) ≡ h

  -- at the arguments of a modifier
  record AtArguments (pos inside : ℕ) : Type 0 where
    count : ℕ
    place : pos ≡ at + count
    none_inside : inside ≡ 0
    walk : head_from count 1 (drop pos whole) ≡ h
    arguments : first_is is_arguments (drop pos whole) ≡ true

  abbrev State : ℕ → ℕ → Type 0
  State pos inside = (at + h ≤ pos + inside) ⊎ (OnHead pos inside ⊎ AtArguments pos inside)

  -- the step takes no attribute, or one that ends before the starter; and the way goes on behind it
  abbrev Advances : ℕ → ℕ → ℕ → List Mark → List Inside → Type 0
  Advances pos use_ attribute marks insides =
      (((step_by use_ attribute marks insides).found.attrs ≡ []) ⊎ (suc pos + (step_by use_ attribute marks insides).more < at + h)) × State (suc pos) (step_by use_ attribute marks insides).more

  past : (pos use_ : ℕ) (marks : List Mark) (insides : List Inside) → at + h ≤ suc pos → Advances pos use_ 0 marks insides
  past pos zero marks insides far = (inl refl, inl (omega (arith, far)))
  past pos (suc more) marks insides far = (inl refl, inl (omega (arith, far)))

  single : (pos : ℕ) (marks : List Mark) (insides : List Inside) → State (suc pos) 0 → Advances pos 0 0 marks insides
  single pos marks insides state = (inl refl, state)

  -- where the head has come to an element
  on_head : (pos count use_ attribute : ℕ) (cut : List Mark) (insides : List Inside) (mark : Mark) (marks : List Mark) → pos ≡ at + count → drop (suc pos) whole ≡ marks → head_from count 0 (mark ∷ marks) ≡ h → (is_use mark ≡ true → mark.modifies ≡ false)
      → (is_use mark ≡ false → use_ ≡ 0) → (attribute_length (mark ∷ marks) ≡ 0 → attribute ≡ 0) → ((more : ℕ) → attribute_length (mark ∷ marks) ≡ suc more → suc count + more < h → attribute ≡ suc more)
      → Advances pos use_ attribute cut insides
  on_head pos count use_ attribute cut insides mark marks placed_ behind walk modified no_use none_ same =
      elim (attribute_length (mark ∷ marks)) as (λ n. attribute_length (mark ∷ marks) ≡ n → by_length (by_length n (modifier_length (mark ∷ marks)) suc) (if starts (mark ∷ marks) then suc count else 0) (λ more. head_from (suc count) more marks) ≡ h → Advances pos use_ attribute cut insides) [
        | zero ↦ λ is ways. no_attribute is ways
        | suc more ↦ λ is ways. an_attribute more is ways
      ] refl walk
    where
      next : (inside : ℕ) → head_from (suc count) inside marks ≡ h → State (suc pos) inside
      next inside is = inr (inl (record { count = suc count; place = omega (arith, placed_); walk = ap (head_from (suc count) inside) behind ∙ is }))

      an_attribute : (more : ℕ) → attribute_length (mark ∷ marks) ≡ suc more → head_from (suc count) more marks ≡ h → Advances pos use_ attribute cut insides
      an_attribute more is ways =
          let ends = head_ends (suc count) more h marks ways some in
          let none : use_ ≡ 0 = no_use (at_no_use mark (begins_at mark marks more is)) in
          let one : Advances pos 0 (suc more) cut insides = (inr (omega (arith, ends, placed_)), next more ways) in
          subst (λ u. Advances pos u attribute cut insides) (sym none) (subst (λ a. Advances pos 0 a cut insides) (sym (same more is ends)) one)

      no_attribute : attribute_length (mark ∷ marks) ≡ 0 → by_length (modifier_length (mark ∷ marks)) (if starts (mark ∷ marks) then suc count else 0) (λ more. head_from (suc count) more marks) ≡ h → Advances pos use_ attribute cut insides
      no_attribute is ways =
          subst (λ a. Advances pos use_ a cut insides) (sym (none_ is))
          (elim mark.modifies as (λ b. mark.modifies ≡ b → by_length (if b then (if first_is is_arguments marks then 2 else 1) else 0) (if starts (mark ∷ marks) then suc count else 0) (λ more. head_from (suc count) more marks) ≡ h → Advances pos use_ 0 cut insides) [
            | true ↦ λ is_modifier_ after. subst (λ u. Advances pos u 0 cut insides) (sym (no_use (not_used mark modified is_modifier_))) (single pos cut insides (a_modifier (first_is is_arguments marks) refl after))
            | false ↦ λ is_none after. past pos use_ cut insides (the_starter (starts (mark ∷ marks)) after)
          ] refl ways)
        where
          the_starter : (b : Bool) → (if b then suc count else 0) ≡ h → at + h ≤ suc pos
          the_starter true is = omega (arith, is, placed_)
          the_starter false is = absurd (omega (arith, is, some))

          a_modifier : (b : Bool) → first_is is_arguments marks ≡ b → by_length (if b then 2 else 1) (if starts (mark ∷ marks) then suc count else 0) (λ more. head_from (suc count) more marks) ≡ h → State (suc pos) 0
          a_modifier true has after = inr (inr (record { count = suc count; place = omega (arith, placed_); none_inside = refl; walk = ap (head_from (suc count) 1) behind ∙ after; arguments = ap (first_is is_arguments) behind ∙ has }))
          a_modifier false has after = next 0 after

  if_zero : (b : Bool) (n : ℕ) → n ≡ 0 → (if b then n else 0) ≡ 0
  if_zero true n is = is
  if_zero false n is = refl

  abbrev list : List Mark
  list = take end whole

  on_list : (pos : ℕ) (mark : Mark) (marks : List Mark) → pos < end → drop pos whole ≡ mark ∷ marks → drop pos list ≡ take (suc (end - suc pos)) (mark ∷ marks)
  on_list pos mark marks less here = let left : end - pos ≡ suc (end - suc pos) = omega (arith, less) in drop_cut pos end whole (omega (arith, less)) ∙ ap (λ k. take k (drop pos whole)) left ∙ ap (take (suc (end - suc pos))) here

  abbrev Steps : List ℕ → ℕ → List Inside → Type 0
  Steps blocks pos insides =
      Advances pos (use_length blocks (reverse (take pos list)) (drop pos list)) (if nat_lt pos (at + h) then attribute_length (drop pos list) else 0) (drop pos list) insides

  steps : (blocks : List ℕ) (pos : ℕ) (insides : List Inside) → HasAt whole pos → State pos 0 → Steps blocks pos insides
  steps blocks pos insides here (inl far) =
      let use_ = use_length blocks (reverse (take pos list)) (drop pos list) in
      elim (nat_lt pos (at + h)) as (λ b. nat_lt pos (at + h) ≡ b → Advances pos use_ (if b then attribute_length (drop pos list) else 0) (drop pos list) insides) [
        | true ↦ λ is. absurd (omega (arith, ltb-true pos (at + h) is, far))
        | false ↦ λ is. past pos use_ (drop pos list) insides (omega (arith, far))
      ] refl
  steps blocks pos insides here (inr (inl on)) =
      let before = reverse (take pos list) in
      let walk : head_from on.count 0 (here.mark ∷ here.marks) ≡ h = ap (head_from on.count 0) (sym here.here) ∙ on.walk in
      let early = head_ends on.count 0 h (here.mark ∷ here.marks) walk some in
      let less : pos < end = omega (arith, on.place, early, within) in
      let cut = on_list pos here.mark here.marks less here.here in
      let own : nat_lt pos (at + h) ≡ true = lt-ltb pos (at + h) (omega (arith, on.place, early)) in
      let modified : NoModifiers (here.mark ∷ here.marks) = subst NoModifiers here.here (modifiers_drop pos whole plain) in
      on_head pos on.count (use_length blocks before (drop pos list)) (if nat_lt pos (at + h) then attribute_length (drop pos list) else 0) (drop pos list) insides here.mark here.marks on.place here.behind walk modified.0
      (λ unused. ap (use_length blocks before) cut ∙ no_use_here blocks before here.mark (take (end - suc pos) here.marks) unused)
      (λ none_. if_zero (nat_lt pos (at + h)) (attribute_length (drop pos list)) (ap attribute_length cut ∙ none_cut (suc (end - suc pos)) (here.mark ∷ here.marks) none_))
      (λ more is ends. ap (λ b. if b then attribute_length (drop pos list) else 0) own ∙ ap attribute_length cut ∙ same_cut (suc (end - suc pos)) more (here.mark ∷ here.marks) is (omega (arith, ends, on.place, within)))
  steps blocks pos insides here (inr (inr on)) =
      let before = reverse (take pos list) in
      let walk : head_from on.count 1 (here.mark ∷ here.marks) ≡ h = ap (head_from on.count 1) (sym here.here) ∙ on.walk in
      let early = head_ends on.count 1 h (here.mark ∷ here.marks) walk some in
      let cut = on_list pos here.mark here.marks (omega (arith, on.place, early, within)) here.here in
      let is = arguments_plain here.mark (ap (first_is is_arguments) (sym here.here) ∙ on.arguments) in
      let unused = ap (use_length blocks before) cut ∙ no_use_here blocks before here.mark (take (end - suc pos) here.marks) is.0 in
      let none_ = if_zero (nat_lt pos (at + h)) (attribute_length (drop pos list)) (ap attribute_length cut ∙ none_cut (suc (end - suc pos)) (here.mark ∷ here.marks) (no_at here.mark here.marks is.1)) in
      let next : State (suc pos) 0 = inr (inl (record { count = suc on.count; place = omega (arith, on.place); walk = ap (head_from (suc on.count) 0) here.behind ∙ walk })) in
      subst (λ u. Advances pos u (if nat_lt pos (at + h) then attribute_length (drop pos list) else 0) (drop pos list) insides) (sym unused) (subst (λ a. Advances pos 0 a (drop pos list) insides) (sym none_) (single pos (drop pos list) insides next))

  skips : (pos inside : ℕ) → HasAt whole pos → State pos (suc inside) → State (suc pos) inside
  skips pos inside here (inl far) = inl (omega (arith, far))
  skips pos inside here (inr (inl on)) = inr (inl (record { count = suc on.count; place = omega (arith, on.place); walk = ap (head_from (suc on.count) inside) here.behind ∙ ap (head_from on.count (suc inside)) (sym here.here) ∙ on.walk }))
  skips pos inside here (inr (inr on)) = absurd (omega (arith, on.none_inside))

  attrs_end : (blocks : List ℕ) (to stop : ℕ) → ((from k : ℕ) → k < at + h → InOrder from (drop k list) to → from ≤ stop)
      → (pos inside left : ℕ) (insides : List Inside) (from : ℕ) → pos + left ≤ length list → InOrder from (drop (pos + inside) list) to → Beside InsideLies (drop pos list) insides → State pos inside
      → AttrsLie from (found_from blocks (at + h) list pos inside left insides).attrs stop
  attrs_end blocks to stop stops pos inside zero insides from all lies holds state = tt
  attrs_end blocks to stop stops pos (suc inside) (suc left) insides from all lies holds state =
      let here = has_at list pos (omega (arith, all)) in
      let there = has_at whole pos (omega (arith, all, length-take end whole)) in
      let same : pos + suc inside ≡ suc pos + inside = omega arith in
      attrs_end blocks to stop stops (suc pos) inside left (drop 1 insides) from (omega (arith, all)) (subst (λ n. InOrder from (drop n list) to) same lies)
      (subst (λ l. Beside InsideLies l (drop 1 insides)) (sym here.behind) (beside_drop InsideLies 1 (here.mark ∷ here.marks) insides (subst (λ l. Beside InsideLies l insides) here.here holds))) (skips pos inside there state)
  attrs_end blocks to stop stops pos zero (suc left) insides from all lies holds state =
      let here = has_at list pos (omega (arith, all)) in
      let there = has_at whole pos (omega (arith, all, length-take end whole)) in
      let at_once : pos + 0 ≡ pos = omega arith in
      let first_lies : InOrder from (drop pos list) to = subst (λ n. InOrder from (drop n list) to) at_once lies in
      let step = step_here blocks (at + h) list to pos insides from here first_lies holds in
      let now = (found_step blocks (at + h) list pos insides).found in
      let more = (found_step blocks (at + h) list pos insides).more in
      let advances = steps blocks pos insides there state in
      let rest_holds : Beside InsideLies (drop (suc pos) list) (drop 1 insides) = subst (λ l. Beside InsideLies l (drop 1 insides)) (sym here.behind) (beside_drop InsideLies 1 (here.mark ∷ here.marks) insides (subst (λ l. Beside InsideLies l insides) here.here holds)) in
      let further : (start : ℕ) → InOrder start (drop (suc pos + more) list) to → AttrsLie start (found_from blocks (at + h) list (suc pos) more left (drop 1 insides)).attrs stop =
      λ start behind. attrs_end blocks to stop stops (suc pos) more left (drop 1 insides) start (omega (arith, all)) behind rest_holds advances.1 in
      let onward : pos + suc more ≡ suc pos + more = omega arith in
      elim advances.0 [
        | inl none_ ↦ subst (λ l. AttrsLie from (l ++ (found_from blocks (at + h) list (suc pos) more left (drop 1 insides)).attrs) stop) (sym none_)
            (further from (subst (λ l. InOrder from l to) (drop-drop (suc more) pos list ∙ ap (λ m. drop m list) onward) (lies_drop (suc more) from to (drop pos list) first_lies)))
        | inr short ↦
            let behind : InOrder step.middle (drop (suc pos + more) list) to = subst (λ l. InOrder step.middle l to) (ap (drop more) (sym here.behind) ∙ drop-drop more (suc pos) list) step.behind in
            attrs_join from step.middle stop now.attrs (found_from blocks (at + h) list (suc pos) more left (drop 1 insides)).attrs step.first (stops step.middle (suc pos + more) short behind) step.attrs (further step.middle behind)
      ]

  -- the starter is the last element of the head
  pub early : (blocks : List ℕ) (insides : List Inside) (from to : ℕ) → at + h ≤ length list → head_from 0 0 (drop at whole) ≡ h → InOrder from (drop at list) to → Beside InsideLies (drop at list) insides
      → AttrsLie from (found_from blocks (at + h) list at 0 (length list - at) insides).attrs (end_of from (take h (drop at list)))
  early blocks insides from to long walk lies holds =
      let last = has_at list (at + (h - 1)) (omega (arith, long, some)) in
      let stop = end_of from (take h (drop at list)) in
      let one : suc (h - 1) ≡ h = omega (arith, some) in
      let ends : stop ≡ last.mark.end = ap (λ n. end_of from (take n (drop at list))) (sym one) ∙ end_at (h - 1) from (drop at list) last.marks last.mark (drop-drop (h - 1) at list ∙ last.here) in
      let stops : (start k : ℕ) → k < at + h → InOrder start (drop k list) to → start ≤ stop = λ start k less order.
      let there : k + ((at + (h - 1)) - k) ≡ at + (h - 1) = omega (arith, less, some) in
      let rest : InOrder start (last.mark ∷ last.marks) to = subst (λ l. InOrder start l to) (drop-drop ((at + (h - 1)) - k) k list ∙ ap (λ n. drop n list) there ∙ last.here) (lies_drop ((at + (h - 1)) - k) start to (drop k list) order) in
      omega (arith, rest.0, rest.1.some, ends) in
      let at_once : at ≡ at + 0 = omega arith in
      attrs_end blocks to stop stops at 0 (length list - at) insides from (omega (arith, long)) (subst (λ n. InOrder from (drop n list) to) at_once lies) holds (inr (inl (record { count = 0; place = at_once; walk = walk })))
