use Rattle.std.proofs.Common.{◌∙◌, ap, sym, arith, drop, length-drop, false}
use Rattle.element_marks.specs.Accessors.{accessor_length, lists_accessors}
use Rattle.element_marks.proofs.Walks.{fine_further, fine_no}
use Rattle.element_marks.proofs.accessors.lists_accessors.Goals as goal

pub returns-then-length-eq0 : goal.returns-then-length-eq0
unfolding lists_accessors
returns-then-length-eq0 c =
    sym (fine_no c.accessors.at (drop c.accessors.at c.args.marks.now) (omega (arith, c.accessors-test.true, length-drop c.accessors.at c.args.marks.now))
    (sym c.if-length-eq0.true ∙ c.accessor_length-length.ensures.value ∙ ap (accessor_length false) c.behind.ensures))
    ∙ c.accessors.invariant

pub accessors-preserved : goal.accessors-preserved
accessors-preserved c =
    fine_further c.accessors.at c.accessor_length-length.result c.args.marks.now (c.accessor_length-length.ensures.value ∙ ap (accessor_length false) c.behind.ensures) (omega (arith, c.if-length-eq0.false))
    ∙ c.accessors.invariant
