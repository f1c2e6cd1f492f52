-- Edits that can be made lie in order, and what they leave is kept.
use Rattle.std.proofs.Common.{◌≡◌, ℕ, ◌+◌, ◌*◌, ◌-◌, ◌==◌, nat_lt, ◌≤◌, ◌⊎◌, inl, inr, if◌then◌else◌, List, [], ◌∷◌, ◌++◌, length, drop, slice_range, refl, ap, ◌∙◌, arith, All, length-drop, append-nil}
use Rattle.std.proofs.lemmas.Bool.Decides.{nat_tests}
use Rattle.std.proofs.lemmas.Bool.{cases_Bool}
use Rattle.std.proofs.lemmas.List.{take_all}
use Rattle.std.proofs.lemmas.List.Elements.{All-nil, All-cons, All-head, All-tail}
use Rattle.result_splice.specs.declared.edit.Edit.{Edit}
use Rattle.result_splice.specs.Edits.{rank, put_in, ordered, edited, LiesBetween, IsApart, AreApart, CanBeMade, EditsLie}
use Rattle.result_splice.specs.Pieces.{pieces_between, pieces_bytes, kept_spans, replaced_spans, in_turn, Tiles}
use Rattle.result_splice.specs.Laws.{PiecesAreTheText, KeepsTheRest, MakesEdits}
use Rattle.result_splice.proofs.Sorting.{AreAtLeast, Rises, Rises-ordered, All-put_in, All-ordered, permuted-ordered, put_in-past, put_in-here}

either_way : (one other : Edit) → IsApart one other → IsApart other one
either_way one other (inl before) = inr before
either_way one other (inr behind) = inl behind

apart-put_in : (edit : Edit) (others : List Edit) → All (IsApart edit) others → AreApart others → AreApart (put_in edit others)
apart-put_in edit [] first rest = (first, tt)
apart-put_in edit (other ∷ others) first rest =
    elim (cases_Bool (nat_lt (rank other) (rank edit))) [
      | inl past ↦
          rw (put_in-past edit other others past) (
            All-put_in (IsApart other) edit others (either_way edit other (All-head (IsApart edit) other others first)) rest.0,
            apart-put_in edit others (All-tail (IsApart edit) other others first) rest.1,
          )
      | inr stays ↦ rw (put_in-here edit other others stays) (first, rest)
    ]

apart-ordered : (edits : List Edit) → AreApart edits → AreApart (ordered edits)
apart-ordered [] apart = tt
apart-ordered (edit ∷ edits) apart = apart-put_in edit (ordered edits) (All-ordered (IsApart edit) edits apart.0) (apart-ordered edits apart.1)

-- of two that are apart, the one that doesn't rank behind the other ends before it begins
ends_before : (begins ends start end : ℕ) → begins ≤ ends → start ≤ end
    → (ends ≤ start) ⊎ (end ≤ begins)
    → (if begins == ends then 2 * begins else 2 * begins + 1) ≤ (if start == end then 2 * start else 2 * start + 1) → ends ≤ start
ends_before begins ends start end forward other (inl before) ranks = before
ends_before begins ends start end forward other (inr behind) ranks = grind (arith, nat_tests)

begin_behind : (size : ℕ) (edit : Edit) (edits : List Edit) → edit.start ≤ edit.end → All (LiesBetween 0 size) edits → All (IsApart edit) edits → AreAtLeast (rank edit) edits → All (LiesBetween edit.end size) edits
begin_behind size edit [] forward each apart behind = All-nil (LiesBetween edit.end size)
begin_behind size edit (other ∷ others) forward each apart behind =
    let lies = All-head (LiesBetween 0 size) other others each in
    All-cons (LiesBetween edit.end size) other others
    (record {
      begins = ends_before edit.start edit.end other.start other.end forward lies.forward (All-head (IsApart edit) other others apart) behind.0;
      forward = lies.forward;
      ends = lies.ends;
    })
    (begin_behind size edit others forward (All-tail (LiesBetween 0 size) other others each) (All-tail (IsApart edit) other others apart) behind.1)

lie_in_order : (from size : ℕ) (edits : List Edit) → from ≤ size → All (LiesBetween from size) edits → All (LiesBetween 0 size) edits → AreApart edits → Rises edits → EditsLie from edits size
lie_in_order from size [] fits each within apart rises = fits
lie_in_order from size (edit ∷ edits) fits each within apart rises =
    let lies = All-head (LiesBetween from size) edit edits each in
    let rest = All-tail (LiesBetween 0 size) edit edits within in
    (lies.begins, lies.forward, lie_in_order edit.end size edits lies.ends (begin_behind size edit edits lies.forward rest apart.0 rises.0) rest apart.1 rises.1)

ordered_edits_lie : (size : ℕ) (edits : List Edit) → CanBeMade size edits → EditsLie 0 (ordered edits) size
ordered_edits_lie size edits can =
    let each = All-ordered (LiesBetween 0 size) edits can.each in
    lie_in_order 0 size (ordered edits) (omega arith) each each (apart-ordered edits can.apart) (Rises-ordered edits)

pub makes_edits : MakesEdits
makes_edits text edits can = record {
  in_order = ordered edits;
  same = permuted-ordered edits;
  lie = ordered_edits_lie (length text) edits can;
  made = refl;
}

rest_of : (text : List ℕ) (from : ℕ) → slice_range text from (length text) ≡ drop from text
rest_of text from = take_all (length text - from) (drop from text) (omega (arith, length-drop from text))

pieces_joined : (text : List ℕ) (from : ℕ) (edits : List Edit) → pieces_bytes text (pieces_between from (length text) edits) ≡ edited text from edits
pieces_joined text from [] = append-nil (slice_range text from (length text)) ∙ rest_of text from
pieces_joined text from (edit ∷ edits) = ap (λ l. slice_range text from edit.start ++ (edit.bytes ++ l)) (pieces_joined text edit.end edits)

pub pieces_are_the_text : PiecesAreTheText
pieces_are_the_text text edits = pieces_joined text 0 (ordered edits)

tile : (from size : ℕ) (edits : List Edit) → EditsLie from edits size → Tiles from (in_turn (kept_spans (pieces_between from size edits)) (replaced_spans edits)) size
tile from size [] lie = (refl, lie, refl)
tile from size (edit ∷ edits) lie = (refl, lie.0, (refl, lie.1, tile edit.end size edits lie.2))

pub keeps_the_rest : KeepsTheRest
keeps_the_rest text edits can = tile 0 (length text) (ordered edits) (ordered_edits_lie (length text) edits can)
