-- Angle parts, by a table of where each angle depth is reached next.
use Rattle.std.proofs.Common.{◌≡◌, refl, ℕ, zero, suc, ◌+◌, ◌-◌, ◌<◌, ◌≤◌, ◌==◌, ◌∙◌, inl, inr, ap, sym, subst, arith, eq-eqb, length-set, get_or, get_or-set_same, get_or-set_other, set, replicate, List, [], ◌∷◌, length, drop, Bool, true, false, if◌then◌else◌, Option, Some}
use Rattle.std.proofs.lemmas.Bool.{cases_eq, ne_eqb}
use Rattle.element_marks.specs.declared.mark.Mark.{Mark}
use Rattle.swift_lexer.specs.declared.element.Element.{Element}
use Rattle.swift_lexer.specs.Trees.{forest_of}
use Rattle.element_marks.specs.Heads.{angles, angles_from, with_angles, with_joins, with_modifiers}
use Rattle.element_marks.specs.Levels.{own_marks}
use Rattle.element_marks.specs.Passes.{closes_of, opens_of}
use Rattle.element_marks.proofs.Further.{further, further_further, further_less, further_zero}

same_test : (a b x : ℕ) → ((a + x) == (b + x)) ≡ (a == b)
same_test a b x = elim (cases_eq a b) [
  | inl same ↦ eq-eqb (a + x) (b + x) (omega (arith, same)) ∙ sym (eq-eqb a b same)
  | inr other ↦ ne_eqb (a + x) (b + x) (λ same. other (omega (arith, same))) ∙ sym (ne_eqb a b other)
]

moved_by : (b : Bool) (count here from_one : ℕ) → here ≡ further count from_one → (if b then suc count else here) ≡ further count (if b then 1 else from_one)
moved_by true count here from_one is = omega arith
moved_by false count here from_one is = is

-- as many `<` as `>` more change nothing
angles_moved : (count opened closed x : ℕ) (marks : List Mark) → angles_from count (opened + x) (closed + x) marks ≡ further count (angles_from 0 opened closed marks)
angles_moved count opened closed x [] = refl
angles_moved count opened closed x (mark ∷ marks) =
    let left : opened + x + mark.opens ≡ opened + mark.opens + x = omega arith in
    let right : closed + x + mark.closes ≡ closed + mark.closes + x = omega arith in
    let unmoved_left : opened + mark.opens ≡ opened + mark.opens + 0 = omega arith in
    let unmoved_right : closed + mark.closes ≡ closed + mark.closes + 0 = omega arith in
    let more : suc count ≡ count + 1 = omega arith in
    let later : angles_from (suc count) (opened + x + mark.opens) (closed + x + mark.closes) marks ≡ further count (angles_from 1 (opened + mark.opens) (closed + mark.closes) marks) =
    ap (λ o. angles_from (suc count) o (closed + x + mark.closes) marks) left
    ∙ ap (λ c. angles_from (suc count) (opened + mark.opens + x) c marks) right
    ∙ angles_moved (suc count) (opened + mark.opens) (closed + mark.closes) x marks
    ∙ ap (λ n. further n (angles_from 0 (opened + mark.opens) (closed + mark.closes) marks)) more
    ∙ sym (further_further count 1 (angles_from 0 (opened + mark.opens) (closed + mark.closes) marks))
    ∙ ap (further count) (sym (
    ap (λ o. angles_from 1 o (closed + mark.closes) marks) unmoved_left
    ∙ ap (λ c. angles_from 1 (opened + mark.opens + 0) c marks) unmoved_right
    ∙ angles_moved 1 (opened + mark.opens) (closed + mark.closes) 0 marks))
    in
    ap (λ o. if o == (closed + x + mark.closes) then suc count else angles_from (suc count) (opened + x + mark.opens) (closed + x + mark.closes) marks) left
    ∙ ap (λ c. if (opened + mark.opens + x) == c then suc count else angles_from (suc count) (opened + x + mark.opens) (closed + x + mark.closes) marks) right
    ∙ ap (λ b. if b then suc count else angles_from (suc count) (opened + x + mark.opens) (closed + x + mark.closes) marks) (same_test (opened + mark.opens) (closed + mark.closes) x)
    ∙ moved_by ((opened + mark.opens) == (closed + mark.closes)) count _ _ later

-- for each angle depth, how many elements the list has up to the next one behind which it is reached, where any is
abbrev pub IsTable : List ℕ → ℕ → ℕ → List Mark → Type 0
IsTable table at depth marks = (d : ℕ) → d < length table → get_or table d 0 ≡ further at (angles_from 0 depth d marks)

filled : (value size d : ℕ) → get_or (replicate size value) d value ≡ value
filled value zero d = refl
filled value (suc size) zero = refl
filled value (suc size) (suc d) = filled value size d

pub empty_table : (size at depth : ℕ) → IsTable (replicate size 0) at depth []
empty_table size at depth = λ d within. filled 0 size d

-- the depth is reached behind the first element
table_here : (at depth now : ℕ) (mark : Mark) (marks : List Mark) → now + mark.opens ≡ depth + mark.closes → suc at ≡ further at (angles_from 0 now depth (mark ∷ marks))
table_here at depth now mark marks is =
    let reached : ((now + mark.opens) == (depth + mark.closes)) ≡ true = eq-eqb (now + mark.opens) (depth + mark.closes) is in
    let here : suc at ≡ further at 1 = omega arith in
    here ∙ ap (further at) (sym (ap (λ b. if b then 1 else angles_from 1 (now + mark.opens) (depth + mark.closes) marks) reached))

-- or behind a later one
table_there : (at depth now d : ℕ) (mark : Mark) (marks : List Mark) → now + mark.opens ≡ depth + mark.closes → (d ≡ depth → ⊥) → further (suc at) (angles_from 0 depth d marks) ≡ further at (angles_from 0 now d (mark ∷ marks))
table_there at depth now d mark marks is other =
    let missed : ((now + mark.opens) == (d + mark.closes)) ≡ false = ne_eqb (now + mark.opens) (d + mark.closes) (λ same. other (omega (arith, same, is))) in
    let more : suc at ≡ at + 1 = omega arith in
    ap (λ n. further n (angles_from 0 depth d marks)) more
    ∙ sym (further_further at 1 (angles_from 0 depth d marks))
    ∙ ap (further at) (
    sym (angles_moved 1 depth d mark.closes marks)
    ∙ ap (λ o. angles_from 1 o (d + mark.closes) marks) (sym is)
    ∙ sym (ap (λ b. if b then 1 else angles_from 1 (now + mark.opens) (d + mark.closes) marks) missed))

table_next : (table : List ℕ) (at depth now : ℕ) (mark : Mark) (marks : List Mark) → IsTable table (suc at) depth marks → now + mark.opens ≡ depth + mark.closes → IsTable (set table depth (suc at)) at now (mark ∷ marks)
table_next table at depth now mark marks before is = λ d within. elim (cases_eq d depth) [
  | inl same ↦
      (let room : depth < length table = omega (arith, within, same, length-set table depth (suc at)) in
      ap (λ k. get_or (set table depth (suc at)) k 0) same
      ∙ get_or-set_same table depth (suc at) 0 room
      ∙ table_here at depth now mark marks is
      ∙ ap (λ k. further at (angles_from 0 now k (mark ∷ marks))) (sym same))
  | inr other ↦
      (let room : d < length table = omega (arith, within, length-set table depth (suc at)) in
      get_or-set_other table depth d (suc at) 0 other
      ∙ before d room
      ∙ table_there at depth now d mark marks is other)
]

pub table_step : (table : List ℕ) (at depth now : ℕ) (mark : Mark) (marks : List Mark) → 0 < at → IsTable table at depth marks → now + mark.opens ≡ depth + mark.closes → IsTable (set table depth at) (at - 1) now (mark ∷ marks)
table_step table zero depth now mark marks some before is = absurd (omega (arith, some))
table_step table (suc at) depth now mark marks some before is =
    let one : at ≡ suc at - 1 = omega arith in
    subst (λ n. IsTable (set table depth (suc at)) n now (mark ∷ marks)) one (table_next table at depth now mark marks before is)

pub opens_drop : (n : ℕ) (marks : List Mark) → opens_of (drop n marks) ≤ opens_of marks
opens_drop zero marks = omega arith
opens_drop (suc n) [] = omega arith
opens_drop (suc n) (mark ∷ marks) = let later : opens_of (drop n marks) ≤ opens_of marks = opens_drop n marks in omega (arith, later)

pub closes_drop : (n : ℕ) (marks : List Mark) → closes_of (drop n marks) ≤ closes_of marks
closes_drop zero marks = omega arith
closes_drop (suc n) [] = omega arith
closes_drop (suc n) (mark ∷ marks) = let later : closes_of (drop n marks) ≤ closes_of marks = closes_drop n marks in omega (arith, later)

-- the depth behind so many elements, by the `<` and `>` of what is left
pub depth_room : (n depth : ℕ) (marks : List Mark) → depth + opens_of (drop n marks) ≡ opens_of marks + closes_of (drop n marks) → depth ≤ opens_of marks + closes_of marks
depth_room n depth marks is = let some : closes_of (drop n marks) ≤ closes_of marks = closes_drop n marks in omega (arith, some, is)

pub not_below : (n depth : ℕ) (marks : List Mark) (mark : Mark) → drop (n - 1) marks ≡ mark ∷ drop n marks → depth + opens_of (drop n marks) ≡ opens_of marks + closes_of (drop n marks) → mark.opens ≤ depth + mark.closes
not_below n depth marks mark here is =
    let opened : opens_of (drop (n - 1) marks) ≡ mark.opens + opens_of (drop n marks) = ap opens_of here in
    let some : opens_of (drop (n - 1) marks) ≤ opens_of marks = opens_drop (n - 1) marks in
    omega (arith, opened, some, is)

pub balance_step : (n depth now : ℕ) (marks : List Mark) (mark : Mark) → drop (n - 1) marks ≡ mark ∷ drop n marks → depth + opens_of (drop n marks) ≡ opens_of marks + closes_of (drop n marks) → now + mark.opens ≡ depth + mark.closes → now + opens_of (drop (n - 1) marks) ≡ opens_of marks + closes_of (drop (n - 1) marks)
balance_step n depth now marks mark here is step =
    let opened : opens_of (drop (n - 1) marks) ≡ mark.opens + opens_of (drop n marks) = ap opens_of here in
    let closed : closes_of (drop (n - 1) marks) ≡ mark.closes + closes_of (drop n marks) = ap closes_of here in
    omega (arith, opened, closed, is, step)

part_of : (table : List ℕ) (at now : ℕ) (marks : List Mark) → IsTable table at now marks → now < length table → get_or table now 0 - at ≡ angles_from 0 0 0 marks
part_of table at now marks is within =
    let unmoved : now ≡ 0 + now = omega arith in
    ap (λ n. n - at) (is now within)
    ∙ further_less at (angles_from 0 now now marks)
    ∙ ap (λ n. angles_from 0 n n marks) unmoved
    ∙ angles_moved 0 0 0 now marks
    ∙ further_zero (angles_from 0 0 0 marks)

pub part_is : (table : List ℕ) (at now : ℕ) (mark : Mark) (marks : List Mark) → IsTable table at now (mark ∷ marks) → now < length table → (if mark.begins_angle then get_or table now 0 - at else 0) ≡ angles (mark ∷ marks)
unfolding angles
part_is table at now mark marks is within = ap (λ n. if mark.begins_angle then n else 0) (part_of table at now (mark ∷ marks) is within)

pub length_own : (text : List ℕ) (elements : List Element) → length (own_marks text (forest_of elements)) ≡ length elements
length_own text [] = refl
length_own text (element ∷ elements) = ap suc (length_own text elements)

-- the passes leave a list as long as it was
pub length_joins : (previous : Option Mark) (marks : List Mark) → length (with_joins previous marks) ≡ length marks
length_joins previous [] = refl
length_joins previous (mark ∷ marks) = ap suc (length_joins (Some mark) marks)

pub length_angles : (marks : List Mark) → length (with_angles marks) ≡ length marks
length_angles [] = refl
length_angles (mark ∷ marks) = ap suc (length_angles marks)

pub length_modifiers : (marks : List Mark) → length (with_modifiers marks) ≡ length marks
length_modifiers [] = refl
length_modifiers (mark ∷ marks) = ap suc (length_modifiers marks)
