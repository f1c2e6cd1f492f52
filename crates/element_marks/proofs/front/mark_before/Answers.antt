use Rattle.std.proofs.Common.{◌-◌, ◌∙◌, ap, arith, refl, Some}
use Rattle.std.proofs.lemmas.Option.{slice_get_read}
use Rattle.element_marks.proofs.Fronts.{none_before, own_before}
use Rattle.element_marks.proofs.front.mark_before.Goals as goal

pub returns-in-Some : goal.returns-in-Some
returns-in-Some c =
    let lent = c.in-Some.ensures.lookup in
    ap Some c.mark_of.ensures
    ∙ own_before c.args.text.now c.args.elements.now c.args.at c.in-Some.element.now (omega (arith, c.if-at-eq0.false))
    (slice_get_read c.args.elements.now _ (c.args.at - 1) c.in-Some.element.now refl lent.3.0 lent.1)

pub returns-in-None : goal.returns-in-None
returns-in-None c = none_before c.args.text.now c.args.elements.now c.args.at (omega (arith, c.if-at-eq0.false)) c.in-None.ensures.lookup.3
