-- How far a declaration of plain elements goes, where these alone tell it.
use Rattle.std.proofs.Common.{◌≡◌, refl, ℕ, suc, ◌+◌, ◌==◌, ◌∙◌, ap, ap₂, sym, arith, List, [], ◌∷◌, take, drop, Some, None, Bool, true, false, ◌&&◌, ◌||◌, not, if◌then◌else◌}
use Rattle.element_marks.specs.declared.mark.Mark.{Mark}
use Rattle.element_marks.specs.Heads.{angles, angles_from}
use Rattle.element_marks.specs.Passes.{begins_alone, begins_nothing}
use Rattle.element_marks.specs.Runs.{run_length, stops}
use Rattle.element_marks.specs.Spans.{end_of}
use Rattle.element_marks.proofs.Settling.{nothing_settled, settled_step, starter_settled}
use Rattle.decl_parser.specs.Cut.{after}
use Rattle.decl_parser.specs.declared.plain.Run.{Run}
use Rattle.decl_parser.specs.Plain.{are_plain, is_plain, run_from, set_by, stops_first}

-- an element stops a declaration by what it is
abbrev pub stopped : Bool → Bool → ℕ → Bool → Bool
stopped semicolon first head joined = semicolon || (first && not (head == 0) && not joined)

and_false : (b : Bool) → (b && false) ≡ false
and_false true = refl
and_false false = refl

pub semicolon_stops : (semicolon first : Bool) (head : ℕ) (joined : Bool) → semicolon ≡ true → true ≡ stopped semicolon first head joined
semicolon_stops semicolon first head joined is = sym (ap (λ a. a || (first && not (head == 0) && not joined)) is)

pub goes_on_later : (semicolon first : Bool) (head : ℕ) (joined : Bool) → semicolon ≡ false → first ≡ false → false ≡ stopped semicolon first head joined
goes_on_later semicolon first head joined none later = sym (ap₂ (λ a b. a || (b && not (head == 0) && not joined)) none later)

pub goes_on_joined : (semicolon first : Bool) (head : ℕ) (joined : Bool) → semicolon ≡ false → joined ≡ true → false ≡ stopped semicolon first head joined
goes_on_joined semicolon first head joined none is = sym (ap₂ (λ a b. a || (first && not (head == 0) && not b)) none is ∙ and_false (first && not (head == 0)))

pub goes_on_headless : (semicolon first : Bool) (head : ℕ) (joined : Bool) → semicolon ≡ false → head ≡ 0 → false ≡ stopped semicolon first head joined
goes_on_headless semicolon first head joined none is = sym (ap₂ (λ a n. a || (first && not (n == 0) && not joined)) none is ∙ ap (λ b. b && not joined) (and_false first))

pub starter_stops : (semicolon first : Bool) (head : ℕ) (joined : Bool) → semicolon ≡ false → first ≡ true → head ≡ 1 → joined ≡ false → true ≡ stopped semicolon first head joined
starter_stops semicolon first head joined none begins is alone = sym (λ i. stopped (none i) (begins i) (is i) (alone i))

abbrev pub first_head : List Mark → ℕ
first_head [] = 0
first_head (mark ∷ marks) = mark.head

no_part : (mark : Mark) (behind : List Mark) → mark.begins_angle ≡ false → (if mark.begins_angle then 0 else 0) ≡ angles (mark ∷ behind)
unfolding angles
no_part mark behind is = ap (λ b. if b then 0 else 0) is ∙ sym (ap (λ b. if b then angles_from 0 0 0 (mark ∷ behind) else 0) is)

-- the head of an element that begins nothing
pub headless : (mark : Mark) (behind : List Mark) → begins_nothing mark ≡ true → first_head (set_by (mark ∷ behind)) ≡ 0
headless mark behind is =
    let no_angle : mark.begins_angle ≡ false = grind (arith, is) in
    ap first_head (sym (settled_step 0 mark behind (no_part mark behind no_angle)) ∙ nothing_settled 0 mark (set_by behind) is)

-- and of one that is a starter and nothing else
pub one_head : (mark : Mark) (behind : List Mark) → begins_alone mark ≡ true → first_head (set_by (mark ∷ behind)) ≡ 1
one_head mark behind is =
    let no_angle : mark.begins_angle ≡ false = grind (arith, is) in
    ap first_head (sym (settled_step 0 mark behind (no_part mark behind no_angle)) ∙ starter_settled 0 mark (set_by behind) is)

pub run_on : (count end : ℕ) (joined : Bool) (mark : Mark) (behind : List Mark) → false ≡ stops_first joined (set_by (mark ∷ behind)) → true ≡ is_plain mark → run_from count end joined (set_by (mark ∷ behind)) ≡ run_from (suc count) mark.end mark.joins (set_by behind)
run_on count end joined mark behind goes plain =
    ap (λ b. if b then Some (record { count = count; end = end; joins = joined; after = after end (set_by (mark ∷ behind)) }) else (if is_plain mark then run_from (suc count) mark.end mark.joins (set_by behind) else None)) (sym goes)
    ∙ ap (λ b. if b then run_from (suc count) mark.end mark.joins (set_by behind) else None) (sym plain)

pub run_stops : (count end : ℕ) (joined : Bool) (mark : Mark) (behind : List Mark) → true ≡ stops_first joined (set_by (mark ∷ behind)) → run_from count end joined (set_by (mark ∷ behind)) ≡ Some (record { count = count; end = end; joins = joined; after = after end (mark ∷ behind) })
run_stops count end joined mark behind stop =
    ap (λ b. if b then Some (record { count = count; end = end; joins = joined; after = after end (set_by (mark ∷ behind)) }) else (if is_plain mark then run_from (suc count) mark.end mark.joins (set_by behind) else None)) (sym stop)

-- whether the last of the elements joins
abbrev pub joined_by : Bool → List Mark → Bool
joined_by joined [] = joined
joined_by joined (mark ∷ marks) = joined_by mark.joins marks

-- a declaration goes so far
pub record GoesSo (n count end : ℕ) (joined : Bool) (marks : List Mark) (run : Run) : Type 0 where
  pub counted : run.count ≡ count + n
  pub plain : are_plain (take n marks) ≡ true
  pub ends : run.end ≡ end_of end (take n marks)
  pub joins : run.joins ≡ joined_by joined (take n marks)
  pub behind : run.after ≡ after run.end (drop n marks)

goes_nowhere : (count end : ℕ) (joined : Bool) (marks : List Mark) (run : Run) → Some run ≡ Some (record { count = count; end = end; joins = joined; after = after end marks }) → GoesSo 0 count end joined marks run
goes_nowhere count end joined marks run is =
    let same : run ≡ record { count = count; end = end; joins = joined; after = after end marks } = cc in
    let none : count ≡ count + 0 = omega arith in
    record {
      counted = ap (λ r. r.count) same ∙ none;
      plain = refl;
      ends = ap (λ r. r.end) same;
      joins = ap (λ r. r.joins) same;
      behind = ap (λ r. r.after) same ∙ ap (λ e. after e marks) (sym (ap (λ r. r.end) same));
    }

goes_further : (n count end : ℕ) (joined : Bool) (mark : Mark) (marks : List Mark) (run : Run) → is_plain mark ≡ true → GoesSo n (suc count) mark.end mark.joins marks run → GoesSo (suc n) count end joined (mark ∷ marks) run
goes_further n count end joined mark marks run plain later =
    let more : suc count + n ≡ count + suc n = omega arith in
    record {
      counted = later.counted ∙ more;
      plain = ap (λ b. b && are_plain (take n marks)) plain ∙ later.plain;
      ends = later.ends;
      joins = later.joins;
      behind = later.behind;
    }

goes_by : (stop plain : Bool) (n count end : ℕ) (joined : Bool) (mark : Mark) (marks : List Mark) (run : Run) → is_plain mark ≡ plain
    → Some run ≡ (if stop then Some (record { count = count; end = end; joins = joined; after = after end (mark ∷ marks) }) else (if plain then run_from (suc count) mark.end mark.joins marks else None))
    → (Some run ≡ run_from (suc count) mark.end mark.joins marks → GoesSo n (suc count) mark.end mark.joins marks run)
    → GoesSo (if stop then 0 else suc n) count end joined (mark ∷ marks) run
goes_by true plain n count end joined mark marks run is_so is later = goes_nowhere count end joined (mark ∷ marks) run is
goes_by false true n count end joined mark marks run is_so is later = goes_further n count end joined mark marks run is_so (later is)
goes_by false false n count end joined mark marks run is_so is later = cc

pub goes_so : (count end : ℕ) (joined : Bool) (marks : List Mark) (run : Run) → Some run ≡ run_from count end joined marks → GoesSo (run_length joined marks) count end joined marks run
goes_so count end joined [] run is = goes_nowhere count end joined [] run is
goes_so count end joined (mark ∷ marks) run is =
    goes_by (stops joined mark) (is_plain mark) (run_length mark.joins marks) count end joined mark marks run refl is
    (λ later. goes_so (suc count) mark.end mark.joins marks run later)
