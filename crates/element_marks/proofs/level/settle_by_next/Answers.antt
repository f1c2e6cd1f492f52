use Rattle.std.proofs.Common.{◌≡◌, ◌-◌, ◌∙◌, ◌∷◌, add-one, ap, arith, drop, get_or, length-drop, length-set, set, slice_get, suc}
use Rattle.std.proofs.lemmas.List.{drop-set, take_rest}
use Rattle.element_marks.specs.declared.mark.Mark.{Mark}
use Rattle.element_marks.specs.Heads.{head, modifies_before}
use Rattle.element_marks.proofs.Backward.{blank, first_left, set_twice}
use Rattle.element_marks.proofs.Settling.{any_settled, placed}
use Rattle.element_marks.proofs.Starting.{head_within}
use Rattle.element_marks.proofs.level.settle_by_next.Goals as goal

pub overflow_cast-mark : goal.overflow_cast-mark
overflow_cast-mark c =
    let mark : Mark = record (get_or c.args.marks.now c.args.at blank) { angles = c.angle_part.result; modifies = c.modifies.result } in
    let now = set c.args.marks.now c.args.at mark in
    let rest = drop c.args.at now in
    let count : c.head-count.result ≡ head rest = c.head-count.ensures ∙ ap head (take_rest now c.args.at) in
    omega (arith, count, head_within rest, length-drop c.args.at now, length-set c.args.marks.now c.args.at mark, c.requires.short)

pub returns : goal.returns
returns c =
    let before = get_or c.args.marks.now c.args.at blank in
    let behind = drop (suc c.args.at) c.args.marks.now in
    let mark : Mark = record before { angles = c.angle_part.result; modifies = c.modifies.result } in
    let now = set c.args.marks.now c.args.at mark in
    let modified : c.modifies.result ≡ modifies_before before (slice_get behind 0) =
    c.modifies.ensures
    ∙ ap (modifies_before before) (c.mark_at-next.ensures ∙ ap (slice_get c.args.marks.now) (add-one c.args.at) ∙ first_left (suc c.args.at) c.args.marks.now) in
    let count : c.head-count.result ≡ head (mark ∷ behind) =
    c.head-count.ensures ∙ ap head (take_rest now c.args.at ∙ drop-set c.args.marks.now c.args.at mark c.requires.within ∙ ap (λ n. mark ∷ drop n c.args.marks.now) (add-one c.args.at)) in
    set_twice c.args.at c.args.marks.now mark _
    ∙ placed (c.args.end - c.args.at) c.args.at c.args.marks.now _ c.requires.within
    (any_settled (c.args.end - c.args.at) c.angle_part.result c.modifies.result c.head-count.result before behind c.angle_part.ensures modified count)
