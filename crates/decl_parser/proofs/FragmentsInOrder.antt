-- Attributes and accessors as whole texts, one behind the other.
use Rattle.std.proofs.Common.{◌≡◌, refl, subst, arith, ℕ, zero, suc, ◌+◌, ◌-◌, ◌==◌, ◌<◌, ◌≤◌, List, [], ◌∷◌, length, take, drop, Ok, Err, Bool, true, false, ◌&&◌, ◌||◌, not, if◌then◌else◌}
use Rattle.swift_base.specs.declared.place.Span.{Span}
use Rattle.swift_tree.specs.declared.item.Attr.{Attr}
use Rattle.element_marks.specs.declared.mark.Mark.{Mark}
use Rattle.element_marks.specs.Sorts.{is_braces}
use Rattle.element_marks.specs.Spans.{end_of}
use Rattle.element_marks.specs.Answers.{and_then}
use Rattle.element_marks.specs.Heads.{by_length, attribute_length, first_is}
use Rattle.element_marks.specs.Accessors.{accessor_front, accessor_length, accessors_from, one_if, with_first, word_from}
use Rattle.decl_parser.specs.declared.fault.ParseKind.TheVariants.{NotAnAttribute}
use Rattle.decl_parser.specs.declared.inside.Inside.{Inside}
use Rattle.decl_parser.specs.Faults.{fault}
use Rattle.decl_parser.specs.Attributes.{attr_of, span_from}
use Rattle.decl_parser.specs.Fragments.{all_of, attributes_from}
use Rattle.decl_parser.specs.Nesting.{PartsLie, AttrsLie}
use Rattle.decl_parser.proofs.Wider.{parts_wider, attrs_wider}
use Rattle.decl_parser.proofs.Outcomes.{OkHolds, ok_then, ok_at}
use Rattle.decl_parser.proofs.Ordered.{InOrder, Beside, bounds, end_grows, end_within, end_more, end_at, lies_take, lies_drop, lies_behind, beside_drop}
use Rattle.decl_parser.proofs.FoundInOrder.{InsideLies, attr_lies}

-- a part of the text, which may be empty
abbrev pub Spans : ℕ → Span → Type 0
Spans to part = (part.start ≤ part.end) × (part.end ≤ to)

pub all_spans : (text : List ℕ) → Spans (length text) (all_of text)
all_spans text = (omega arith, omega arith)

pub spans_from : (from to : ℕ) (marks : List Mark) → InOrder from marks to → Spans to (span_from marks)
spans_from from to [] lies = (omega arith, omega arith)
spans_from from to (mark ∷ marks) lies = (omega (arith, lies.1.some, end_grows mark.end to marks lies.2), end_within mark.end to marks lies.2)

pub attributes_lie : (to inside : ℕ) (marks : List Mark) (insides : List Inside) (from : ℕ) → InOrder from (drop inside marks) to → Beside InsideLies marks insides → OkHolds (λ attrs. AttrsLie from attrs to) (attributes_from inside marks insides)
attributes_lie to inside [] insides from lies holds = tt
attributes_lie to (suc inside) (mark ∷ marks) insides from lies holds = attributes_lie to inside marks (drop 1 insides) from lies (beside_drop InsideLies 1 (mark ∷ marks) insides holds)
attributes_lie to zero (mark ∷ marks) insides from lies holds =
    let P : List Attr → Type 0 = λ attrs. AttrsLie from attrs to in
    elim (attribute_length (mark ∷ marks)) as (λ n. attribute_length (mark ∷ marks) ≡ n → OkHolds P (by_length n (Err (fault mark.start NotAnAttribute)) (λ more. and_then (attributes_from more marks (drop 1 insides)) (λ others. Ok (attr_of (mark ∷ marks) insides ∷ others))))) [
      | zero ↦ λ is. tt
      | suc more ↦ λ is.
          let end = end_of mark.end (take more marks) in
          let behind = lies_behind more mark.end to marks lies.2 in
          let fits = attr_lies from to more mark marks insides is lies holds in
          let one : AttrsLie from (attr_of (mark ∷ marks) insides ∷ []) to = attrs_wider from from end to (attr_of (mark ∷ marks) insides ∷ []) (omega arith) (bounds end to (drop more marks) behind) (fits.0, tt) in
          ok_then P (attributes_from more marks (drop 1 insides)) _ (λ others are.
          let rest : AttrsLie end others to = ok_at (λ attrs. AttrsLie end attrs to) (attributes_from more marks (drop 1 insides)) others are (attributes_lie to more marks (drop 1 insides) end behind (beside_drop InsideLies 1 (mark ∷ marks) insides holds)) in
          (one.0, attrs_wider (attr_of (mark ∷ marks) insides).span.end end to to others fits.0.between.ends (omega arith) rest))
    ] refl

-- an accessor's word is one of its elements
longer : (none : Bool) (words front extra more : ℕ) → words ≤ front → (if none then 0 else front + extra) ≡ suc more → words ≤ suc more
longer true words front extra more less is = absurd (omega (arith, is))
longer false words front extra more less is = omega (arith, is)

word_within : (braces : Bool) (marks : List Mark) (more : ℕ) → accessor_length braces marks ≡ suc more → word_from 0 0 marks ≤ suc more
unfolding accessor_length
word_within braces marks more is =
    let words = word_from 0 0 marks in
    let front = accessor_front words marks in
    let has = first_is is_braces (drop front marks) in
    longer (words == 0 || (braces && not has)) words front (one_if has) more (omega arith) is

word_first : (from to n k : ℕ) (marks rest : List Mark) (words : List Span) → k < n → drop k marks ≡ rest → InOrder from marks to → PartsLie (end_of from (take n marks)) words to → from ≤ end_of from (take n marks) → end_of from (take n marks) ≤ to
    → PartsLie from (with_first rest words) to
word_first from to n k marks [] words within is lies further first last = parts_wider from (end_of from (take n marks)) to to words first (omega arith) further
word_first from to n k marks (mark ∷ others) words within is lies further first last =
    let here : InOrder from (mark ∷ others) to = subst (λ l. InOrder from l to) is (lies_drop k from to marks lies) in
    let end = end_at k from marks others mark is in
    let less = end_more (suc k) n from to marks within lies in
    (record { begins = here.0; some = here.1.some; ends = omega (arith, end, less) }, parts_wider mark.end (end_of from (take n marks)) to to words (omega (arith, end, less)) (omega arith) further)

pub accessors_lie : (to : ℕ) (braces : Bool) (inside : ℕ) (marks : List Mark) (from : ℕ) → InOrder from (drop inside marks) to → OkHolds (λ words. PartsLie from words to) (accessors_from braces inside marks)
accessors_lie to braces inside [] from lies = tt
accessors_lie to braces (suc inside) (mark ∷ marks) from lies = accessors_lie to braces inside marks from lies
accessors_lie to braces zero (mark ∷ marks) from lies =
    let P : List Span → Type 0 = λ words. PartsLie from words to in
    let list : List Mark = mark ∷ marks in
    let k = word_from 0 0 list - 1 in
    elim (accessor_length braces list) as (λ n. accessor_length braces list ≡ n → OkHolds P (by_length n (Err mark.start) (λ more. and_then (accessors_from braces more marks) (λ words. Ok (with_first (drop k list) words))))) [
      | zero ↦ λ is. tt
      | suc more ↦ λ is.
          let end = end_of mark.end (take more marks) in
          let behind = lies_behind more mark.end to marks lies.2 in
          ok_then P (accessors_from braces more marks) _ (λ words are.
          word_first from to (suc more) k list (drop k list) words (omega (arith, word_within braces list more is)) refl lies
          (ok_at (λ words. PartsLie end words to) (accessors_from braces more marks) words are (accessors_lie to braces more marks end behind))
          (omega (arith, lies.0, lies.1.some, end_grows mark.end to (take more marks) (lies_take more mark.end to marks lies.2))) (bounds end to (drop more marks) behind))
    ] refl
