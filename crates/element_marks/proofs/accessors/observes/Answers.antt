use Rattle.std.proofs.Common.{◌∙◌, ap, arith}
use Rattle.element_marks.specs.Heads.{prefix_length}
use Rattle.element_marks.proofs.Walks.{observes_further}
use Rattle.element_marks.proofs.accessors.observes.Goals as goal

pub prefix-preserved : goal.prefix-preserved
prefix-preserved c =
    observes_further c.prefix.at c.prefix_length-prefix.result c.args.marks.now (c.prefix_length-prefix.ensures.value ∙ ap prefix_length c.behind.ensures) (omega (arith, c.if-prefix-eq0.false)) ∙ c.prefix.invariant
