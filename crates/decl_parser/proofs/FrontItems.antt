-- Declarations are read by a front of their list as by the whole list.
use Rattle.std.proofs.Common.{◌≡◌, ◌⊎◌, inl, inr, ⊎_elim, refl, ℕ, zero, suc, ◌+◌, ◌-◌, ◌<◌, ◌≤◌, ◌==◌, ◌∙◌, ap, sym, subst, subst₂, arith, nat_lt, nat_le, List, [], ◌∷◌, ◌++◌, length, reverse, drop, take, take-append-drop, Result, Ok, Bool, true, false, ◌&&◌, ◌||◌, not, if◌then◌else◌}
use Rattle.std.proofs.lemmas.Bool.{eq-eqb, eqb-true, le-ltb, leb-true, lt-ltb, ltb-false, ltb-true}
use Rattle.std.proofs.lemmas.List.{drop-drop, drop-take, length-append, length-drop, length-take, take_all, take-append-le}
use Rattle.element_marks.specs.declared.mark.Mark.{Mark}
use Rattle.element_marks.specs.Answers.{and_then}
use Rattle.element_marks.specs.Heads.{attribute_length, first_is}
use Rattle.element_marks.specs.Runs.{run_length, stops}
use Rattle.element_marks.specs.Sorts.{is_pound, is_semicolon, is_use}
use Rattle.element_marks.specs.Uses.{use_length}
use Rattle.swift_tree.specs.declared.item.Kind.{Kind}
use Rattle.swift_tree.specs.Outlines.{ItemSeen, item}
use Rattle.decl_parser.specs.declared.fault.ParseFault.{ParseFault}
use Rattle.decl_parser.specs.declared.front.Front.{Front}
use Rattle.decl_parser.specs.declared.inside.Inside.{Inside}
use Rattle.decl_parser.specs.declared.parts.Parts.{Parts}
use Rattle.decl_parser.specs.declared.place.Place.{Place}
use Rattle.decl_parser.specs.Attributes.{span_from}
use Rattle.decl_parser.specs.Cut.{after, all_ends, assembled, beginning, block_of, closed, count_of, ends, head_of, item_at, item_by, kind_of, members_at, members_place, nothing_more, start_of, use_ends, whole_item, without}
use Rattle.decl_parser.specs.Found.{found_from, found_step, joined}
use Rattle.decl_parser.specs.Fronts.{IsFront, Readable, has_use, is_all, is_readable, stands_alone}
use Rattle.decl_parser.specs.Held.{Held}
use Rattle.decl_parser.specs.Parts.{parts}
use Rattle.decl_parser.proofs.FoundWalks.{by_lengths}

both : (a b : Bool) → (a && b) ≡ true → (a ≡ true) × (b ≡ true)
both true b is = (refl, is)
both false b is = cc

either_of : (a b : Bool) → (a || b) ≡ true → (a ≡ true) ⊎ (b ≡ true)
either_of true b is = inl refl
either_of false b is = inr is

neither_of : (a b : Bool) → (a || b) ≡ false → (a ≡ false) × (b ≡ false)
neither_of true b is = cc
neither_of false b is = (refl, is)

negated : (b : Bool) → not b ≡ true → b ≡ false
negated true is = cc
negated false is = refl

-- a declaration that begins two lists, and is the same in both
record SameDeclaration (part whole : List Mark) : Type 0 where
  semicolon : first_is is_semicolon part ≡ first_is is_semicolon whole
  head : head_of part ≡ head_of whole
  start : start_of part ≡ start_of whole
  count : count_of part ≡ count_of whole
  own : take (count_of part) part ≡ take (count_of part) whole
  next : (end : ℕ) → after end (drop (count_of part) part) ≡ after end (drop (count_of part) whole)

drop_front : (n : ℕ) (part tail : List Mark) → n ≤ length part → drop n (part ++ tail) ≡ drop n part ++ tail
drop_front zero part tail within = refl
drop_front (suc n) [] tail within = absurd (omega (arith, within))
drop_front (suc n) (mark ∷ part) tail within = drop_front n part tail (omega (arith, within))

run_choice : (stop : Bool) (short long count : ℕ) → (if stop then 0 else suc short) < suc count → (short < count → long ≡ short) → (if stop then 0 else suc long) ≡ (if stop then 0 else suc short)
run_choice true short long count within same = refl
run_choice false short long count within same = ap suc (same (omega (arith, within)))

-- a run that ends in a list's front ends there in the list
run_front : (joined : Bool) (part tail : List Mark) → run_length joined part < length part → run_length joined (part ++ tail) ≡ run_length joined part
run_front joined [] tail within = absurd (omega (arith, within))
run_front joined (mark ∷ part) tail within =
    run_choice (stops joined mark) (run_length mark.joins part) (run_length mark.joins (part ++ tail)) (length part) within (run_front mark.joins part tail)

after_front : (end : ℕ) (part tail : List Mark) → 0 < length part → after end part ≡ after end (part ++ tail)
after_front end [] tail some = absurd (omega (arith, some))
after_front end (mark ∷ part) tail some = refl

head_front : (mark : Mark) (others tail : List Mark) → head_of (mark ∷ others) < length (mark ∷ others) → head_of (mark ∷ (others ++ tail)) ≡ head_of (mark ∷ others)
head_front mark others tail within = omega (arith, within, length-append others tail)

count_front : (mark : Mark) (others tail : List Mark) → count_of (mark ∷ others) < length (mark ∷ others) → count_of (mark ∷ (others ++ tail)) ≡ count_of (mark ∷ others)
count_front mark others tail within =
    let part = mark ∷ others in
    let head = head_of part in
    let short : head < length part = omega (arith, within) in
    let run : run_length false (drop head part) < length (drop head part) = omega (arith, within, length-drop head part) in
    ap (λ n. n + run_length false (drop n (part ++ tail))) (head_front mark others tail short)
    ∙ ap (λ l. head + run_length false l) (drop_front head part tail (omega (arith, short)))
    ∙ ap (λ n. head + n) (run_front false (drop head part) tail run)

front_same : (mark : Mark) (others tail : List Mark) → count_of (mark ∷ others) < length (mark ∷ others) → SameDeclaration (mark ∷ others) (mark ∷ (others ++ tail))
front_same mark others tail within =
    let part = mark ∷ others in
    let count = count_of part in
    let few : count ≤ length part = omega (arith, within) in
    let more : 0 < length (drop count part) = omega (arith, within, length-drop count part) in
    record {
      semicolon = refl;
      head = sym (head_front mark others tail (omega (arith, within)));
      start = refl;
      count = sym (count_front mark others tail within);
      own = sym (take-append-le count part tail few);
      next = λ end. after_front end (drop count part) tail more ∙ ap (after end) (sym (drop_front count part tail few));
    }

all_same : (marks : List Mark) → SameDeclaration marks marks
all_same marks = record { semicolon = refl; head = refl; start = refl; count = refl; own = refl; next = λ end. refl }

same_by : (part whole : List Mark) (n : ℕ) → part ≡ take n whole → (length part == 0) ≡ false → (nat_lt (count_of part) (length part) ≡ true) ⊎ ((length part == length whole) ≡ true) → SameDeclaration part whole
same_by [] whole n is some ends = cc
same_by (mark ∷ others) whole n is some (inl ends) =
    let part = mark ∷ others in
    let all : part ++ drop n whole ≡ whole = ap (λ l. l ++ drop n whole) is ∙ take-append-drop n whole in
    subst (SameDeclaration part) all (front_same mark others (drop n whole) (ltb-true (count_of part) (length part) ends))
same_by (mark ∷ others) whole n is some (inr ends) =
    let part = mark ∷ others in
    let as_long : length part ≡ length whole = eqb-true (length part) (length whole) ends in
    let all : part ≡ whole = is ∙ take_all n whole (omega (arith, as_long, ap length is, length-take n whole)) in
    subst (SameDeclaration part) all (all_same part)

-- what stands before elements without a use is not looked at
no_use_behind : (n : ℕ) (marks : List Mark) → has_use marks ≡ false → has_use (drop n marks) ≡ false
no_use_behind zero marks none = none
no_use_behind (suc n) [] none = none
no_use_behind (suc n) (mark ∷ marks) none = no_use_behind n marks (neither_of (is_use mark) (has_use marks) none).1

same_unused : (b : Bool) (m n : ℕ) → b ≡ false → (if b then m else 0) ≡ (if b then n else 0)
same_unused true m n none = cc
same_unused false m n none = refl

use_anywhere : (blocks : List ℕ) (before other marks : List Mark) → has_use marks ≡ false → use_length blocks before marks ≡ use_length blocks other marks
unfolding use_length
use_anywhere blocks before other [] none = refl
use_anywhere blocks before other (mark ∷ marks) none =
    same_unused (is_use mark) _ _ (neither_of (is_use mark) (has_use marks) none).0

less_by : (from a b : ℕ) (less : Bool) → nat_lt a b ≡ less → nat_lt (from + a) (from + b) ≡ less
less_by from a b true is = lt-ltb (from + a) (from + b) (omega (arith, ltb-true a b is))
less_by from a b false is = le-ltb (from + a) (from + b) (omega (arith, ltb-false a b is))

less_beyond : (from a b : ℕ) → nat_lt (from + a) (from + b) ≡ nat_lt a b
less_beyond from a b = less_by from a b (nat_lt a b) refl

module _ (blocks : List ℕ) (own : ℕ) (list : List Mark) (from : ℕ) (none : has_use (drop from list) ≡ false) where
  step_alone : (at : ℕ) (insides : List Inside) → found_step blocks (from + own) list (from + at) insides ≡ found_step blocks own (drop from list) at insides
  step_alone at insides =
      let marks : drop (from + at) list ≡ drop at (drop from list) = sym (drop-drop at from list) in
      let before = reverse (take (from + at) list) in
      let alone = reverse (take at (drop from list)) in
      let used : use_length blocks before (drop at (drop from list)) ≡ use_length blocks alone (drop at (drop from list)) = use_anywhere blocks before alone (drop at (drop from list)) (no_use_behind at (drop from list) none) in
      (λ i. by_lengths (use_length blocks before (marks i)) (if less_beyond from at own i then attribute_length (marks i) else 0) (marks i) insides)
      ∙ ap (λ n. by_lengths n (if nat_lt at own then attribute_length (drop at (drop from list)) else 0) (drop at (drop from list)) insides) used

  found_alone : (at inside left : ℕ) (insides : List Inside) → found_from blocks (from + own) list (from + at) inside left insides ≡ found_from blocks own (drop from list) at inside left insides
  found_alone at inside zero insides = refl
  found_alone at (suc inside) (suc left) insides =
      let next : suc (from + at) ≡ from + suc at = omega arith in
      ap (λ n. found_from blocks (from + own) list n inside left (drop 1 insides)) next
      ∙ found_alone (suc at) inside left (drop 1 insides)
  found_alone at zero (suc left) insides =
      let next : suc (from + at) ≡ from + suc at = omega arith in
      let step = found_step blocks own (drop from list) at insides in
      ap (λ s. joined s.found (found_from blocks (from + own) list (suc (from + at)) s.more left (drop 1 insides))) (step_alone at insides)
      ∙ ap (λ n. joined step.found (found_from blocks (from + own) list n step.more left (drop 1 insides))) next
      ∙ ap (joined step.found) (found_alone (suc at) step.more left (drop 1 insides))

  found_own : (insides : List Inside) → found_from blocks (from + own) list from 0 (length list - from) insides ≡ found_from blocks (0 + own) (drop from list) 0 0 (length (drop from list) - 0) insides
  found_own insides =
      let here : from ≡ from + 0 = omega arith in
      let left : length list - from ≡ length (drop from list) - 0 = omega (arith, length-drop from list) in
      let first : own ≡ 0 + own = omega arith in
      (λ i. found_from blocks (from + own) list (here i) 0 (left i) insides)
      ∙ found_alone 0 0 (length (drop from list) - 0) insides
      ∙ ap (λ n. found_from blocks n (drop from list) 0 0 (length (drop from list) - 0) insides) first

abbrev Ending : Type 0
Ending = Result (Unit {0}) ParseFault

abbrev SameEnding : Ending → Ending → Type 0
SameEnding one other = one ≡ other

abbrev SameItem : Result ItemSeen ParseFault → Result ItemSeen ParseFault → Type 0
SameItem one other = one ≡ other

module _ (list : List Mark) (from : ℕ) (next : List Mark) (all_insides : List Inside) (all_held : List Held) (none : has_use (drop from list) ≡ false) where
  ends_alone : (starter : Mark) → SameEnding (use_ends starter list from) (use_ends starter (drop from list) 0)
  ends_alone starter =
      ap (λ n. if is_pound starter then nothing_more (drop n (drop from list)) else Ok tt)
      (use_anywhere [] (reverse (take from list)) (reverse (take 0 (drop from list))) (drop from list) none)

  whole_alone : (which : Kind) (own_parts : Parts) (insides : List Inside) (members : List ItemSeen) → whole_item list from next which own_parts insides members ≡ whole_item (drop from list) 0 next which own_parts insides members
  unfolding whole_item
  whole_alone which own_parts insides members =
      ap (λ found. assembled (span_from (drop from list)) next which own_parts found members) (found_own own_parts.blocks (head_of (drop from list)) list from none insides)

  by_alone : (starter : Mark) → SameItem (item_by list from next all_insides all_held starter) (item_by (drop from list) 0 next all_insides all_held starter)
  by_alone starter =
      let own = drop from list in
      let head = head_of own in
      let place = members_place starter head own in
      let outside = without place all_insides in
      (λ i. and_then (parts (kind_of starter) starter (drop head own) (drop head outside) (drop head all_held)) (λ own_parts.
      and_then (members_at place all_held) (λ inner.
      and_then (and_then (closed own_parts.body (drop head own)) (λ closes. and_then (ends_alone starter i) (λ alone. ends own))) (λ ended. Ok (whole_alone (kind_of starter) own_parts outside inner i)))))

  -- a declaration without a use is read without what stands before it
  item_alone : (place : Place) → SameItem (item_at place list from next all_insides all_held) (item_at place (drop from list) 0 next all_insides all_held)
  unfolding item_at
  item_alone place = λ i. and_then (beginning place (drop from list)) (λ starter. by_alone starter i)

-- of what stands behind a declaration no more is looked at than what its end is
module _ (list : List Mark) (from : ℕ) (next other : List Mark) (all_insides : List Inside) (all_held : List Held) (same : (end : ℕ) → after end next ≡ after end other) where
  whole_before : (which : Kind) (own_parts : Parts) (insides : List Inside) (members : List ItemSeen) → whole_item list from next which own_parts insides members ≡ whole_item list from other which own_parts insides members
  unfolding whole_item
  whole_before which own_parts insides members =
      let span = span_from (drop from list) in
      let found = found_from own_parts.blocks (from + head_of (drop from list)) list from 0 (length list - from) insides in
      ap (λ end. item (record { span = span; after = end; kind = which; attrs = found.attrs; names = own_parts.names; bindings = own_parts.bindings; inherits = own_parts.inherits; extended = own_parts.extended; uses = found.uses; locals = found.locals }) (block_of own_parts.block members)) (same span.end)

  by_before : (starter : Mark) → SameItem (item_by list from next all_insides all_held starter) (item_by list from other all_insides all_held starter)
  by_before starter =
      let own = drop from list in
      let head = head_of own in
      let place = members_place starter head own in
      let outside = without place all_insides in
      (λ i. and_then (parts (kind_of starter) starter (drop head own) (drop head outside) (drop head all_held)) (λ own_parts.
      and_then (members_at place all_held) (λ inner.
      and_then (all_ends own_parts.body starter list from) (λ ended. Ok (whole_before (kind_of starter) own_parts outside inner i)))))

  item_before : (place : Place) → SameItem (item_at place list from next all_insides all_held) (item_at place list from other all_insides all_held)
  unfolding item_at
  item_before place = λ i. and_then (beginning place (drop from list)) (λ starter. by_before starter i)

-- what is read at a place of some marks is what is read at a place of the whole list
pub record ReadsAs (all marks : List Mark) (here at : ℕ) : Type 0 where
  pub within : here < length marks
  pub semicolon : first_is is_semicolon (drop here marks) ≡ first_is is_semicolon (drop at all)
  pub head : head_of (drop here marks) ≡ head_of (drop at all)
  pub start : start_of (drop here marks) ≡ start_of (drop at all)
  pub count : count_of (drop here marks) ≡ count_of (drop at all)
  pub item : (place : Place) (many : ℕ) → many ≡ count_of (drop at all) → (insides : List Inside) (held : List Held)
      → item_at place (take (here + many) marks) here (drop (here + many) marks) insides held ≡ item_at place (take (at + many) all) at (drop (at + many) all) insides held

reads_itself : (all : List Mark) (at : ℕ) → at < length all → ReadsAs all all at at
reads_itself all at within = record { within = within; semicolon = refl; head = refl; start = refl; count = refl; item = λ place many counted insides held. refl }

-- so many elements from a place on, without a `#` word
cut_alone : (list : List Mark) (at count : ℕ) (place : Place) (next : List Mark) (insides : List Inside) (held : List Held) → has_use (take count (drop at list)) ≡ false
    → SameItem (item_at place (take (at + count) list) at next insides held) (item_at place (take count (drop at list)) 0 next insides held)
cut_alone list at count place next insides held none =
    let own : drop at (take (at + count) list) ≡ take count (drop at list) = drop-take at count list in
    item_alone (take (at + count) list) at next insides held (ap has_use own ∙ none) place
    ∙ ap (λ l. item_at place l 0 next insides held) own

same_item : (all marks : List Mark) (here at count : ℕ) → take count (drop here marks) ≡ take count (drop at all) → ((end : ℕ) → after end (drop count (drop here marks)) ≡ after end (drop count (drop at all))) → has_use (take count (drop here marks)) ≡ false
    → (place : Place) (insides : List Inside) (held : List Held)
    → item_at place (take (here + count) marks) here (drop (here + count) marks) insides held ≡ item_at place (take (at + count) all) at (drop (at + count) all) insides held
same_item all marks here at count own behind none place insides held =
    let next : (end : ℕ) → after end (drop (here + count) marks) ≡ after end (drop (at + count) all) =
    λ end. ap (after end) (sym (drop-drop count here marks)) ∙ behind end ∙ ap (after end) (drop-drop count at all) in
    cut_alone marks here count place (drop (here + count) marks) insides held none
    ∙ ap (λ l. item_at place l 0 (drop (here + count) marks) insides held) own
    ∙ item_before (take count (drop at all)) 0 (drop (here + count) marks) (drop (at + count) all) insides held next place
    ∙ sym (cut_alone all at count place (drop (at + count) all) insides held (sym (ap has_use own) ∙ none))

within_list : (n : ℕ) (list : List Mark) → (length (drop n list) == 0) ≡ false → n < length list
within_list zero [] is = cc
within_list zero (mark ∷ list) is = omega arith
within_list (suc n) [] is = cc
within_list (suc n) (mark ∷ list) is = omega (arith, within_list n list is)

cut_behind : (n m : ℕ) (list : List Mark) → drop n (take m list) ≡ take (m - n) (drop n list)
cut_behind zero m list = let all : m ≡ m - 0 = omega arith in ap (λ k. take k list) all
cut_behind (suc n) zero list = let none : 0 ≡ 0 - suc n = omega arith in ap (λ k. take k (drop (suc n) list)) none
cut_behind (suc n) (suc m) [] = sym (take_all (suc m - suc n) [] (omega arith))
cut_behind (suc n) (suc m) (mark ∷ list) = let left : m - n ≡ suc m - suc n = omega arith in cut_behind n m list ∙ ap (λ k. take k (drop n list)) left

reads_alone : (all marks : List Mark) (here at : ℕ) → SameDeclaration (drop here marks) (drop at all) → (length (drop here marks) == 0) ≡ false → has_use (take (count_of (drop here marks)) (drop here marks)) ≡ false → ReadsAs all marks here at
reads_alone all marks here at same some none =
    record {
      within = within_list here marks some;
      semicolon = same.semicolon;
      head = same.head;
      start = same.start;
      count = same.count;
      item = λ place many counted. subst (λ count. (insides : List Inside) (held : List Held)
          → item_at place (take (here + count) marks) here (drop (here + count) marks) insides held ≡ item_at place (take (at + count) all) at (drop (at + count) all) insides held)
          (same.count ∙ sym counted) (same_item all marks here at (count_of (drop here marks)) same.own same.next none place);
    }

module _ (all : List Mark) (front : Front) (at : ℕ) (within : at < length all) (is_front : IsFront all front) (begins : front.from ≤ at) where
  by_all : is_all front (length all) ≡ true → ReadsAs all front.marks.items (at - front.from) at
  by_all whole =
      let marks = front.marks.items in
      let parts = both (front.from == 0) (length marks == length all) whole in
      let first : front.from ≡ 0 = eqb-true front.from 0 parts.0 in
      let as_long : length marks ≡ length all = eqb-true (length marks) (length all) parts.1 in
      let is : all ≡ marks = sym (is_front ∙ ap (λ n. take (length marks) (drop n all)) first ∙ take_all (length marks) all (omega (arith, as_long))) in
      let here : at ≡ at - front.from = omega (arith, first) in
      subst₂ (λ list place. ReadsAs all list place at) is here (reads_itself all at within)

  by_part : stands_alone (drop (at - front.from) front.marks.items) (length all - at) ≡ true → ReadsAs all front.marks.items (at - front.from) at
  by_part stands =
      let marks = front.marks.items in
      let here = at - front.from in
      let part = drop here marks in
      let total = length marks in
      let kept = total - here in
      let outer = both (not (length part == 0) && (nat_lt (count_of part) (length part) || (length part == length all - at))) (not (has_use (take (count_of part) part))) stands in
      let inner = both (not (length part == 0)) (nat_lt (count_of part) (length part) || (length part == length all - at)) outer.0 in
      let some : (length part == 0) ≡ false = negated (length part == 0) inner.0 in
      let there : front.from + here ≡ at = omega (arith, begins) in
      let is : part ≡ take kept (drop at all) =
      ap (drop here) is_front ∙ cut_behind here total (drop front.from all) ∙ ap (take kept) (drop-drop here front.from all ∙ ap (λ n. drop n all) there) in
      let left : length all - at ≡ length (drop at all) = sym (length-drop at all) in
      let ends : (nat_lt (count_of part) (length part) ≡ true) ⊎ ((length part == length (drop at all)) ≡ true) =
      either_of (nat_lt (count_of part) (length part)) (length part == length (drop at all)) (ap (λ n. nat_lt (count_of part) (length part) || (length part == n)) (sym left) ∙ inner.1) in
      reads_alone all marks here at (same_by part (drop at all) kept is some ends) some (negated (has_use (take (count_of part) part)) outer.1)

-- by a front that reads its declaration, the declaration is read as by the whole list
pub reads_as : (all : List Mark) (front : Front) (at : ℕ) → at < length all → Readable all front at → ReadsAs all front.marks.items (at - front.from) at
reads_as all front at within readable =
    let part = stands_alone (drop (at - front.from) front.marks.items) (length all - at) in
    ⊎_elim (by_all all front at within readable.is_front readable.begins)
    (λ is. by_part all front at within readable.is_front readable.begins (both (nat_le front.from at) part is).1)
    (either_of (is_all front (length all)) (nat_le front.from at && part) readable.reads)

-- the whole list
pub readable_all : (all : List Mark) (front : Front) (at : ℕ) → front.from ≡ 0 → front.marks.items ≡ all → Readable all front at
readable_all all front at first is =
    let marks = front.marks.items in
    record {
      is_front = sym (ap (λ n. take (length marks) (drop n all)) first ∙ take_all (length marks) all (omega (arith, ap length is)) ∙ sym is);
      begins = omega (arith, first);
      reads = ap (λ b. b || (nat_le front.from at && stands_alone (drop (at - front.from) marks) (length all - at)))
          ((λ i. (first i == 0) && (length (is i) == length all)) ∙ eq-eqb (length all) (length all) refl);
    }

-- a front that is found to be so
pub readable_by : (all : List Mark) (front : Front) (at : ℕ) {total : ℕ} → IsFront all front → is_readable front at total ≡ true → length all ≡ total → Readable all front at
readable_by all front at {total} is_front reads many =
    let part = stands_alone (drop (at - front.from) front.marks.items) (total - at) in
    record {
      is_front = is_front;
      begins = ⊎_elim (λ whole. first_of (both (front.from == 0) (length front.marks.items == total) whole).0)
          (λ is. leb-true front.from at (both (nat_le front.from at) part is).0)
          (either_of (is_all front total) (nat_le front.from at && part) reads);
      reads = ap (is_readable front at) many ∙ reads;
    } where
      first_of : (front.from == 0) ≡ true → front.from ≤ at
      first_of is = let first : front.from ≡ 0 = eqb-true front.from 0 is in omega (arith, first)
