use Rattle.std.proofs.Common.{◌∙◌, ap, arith}
use Rattle.element_marks.specs.Inherits.{named_type}
use Rattle.element_marks.proofs.Walks.{named_step}
use Rattle.element_marks.proofs.inherits.named_type.Goals as goal

pub attributes-preserved : goal.attributes-preserved
attributes-preserved c =
    ap (named_type 0) c.behind-rest.ensures
    ∙ named_step c.attributes.rest.now c.attribute_length-length.result c.attribute_length-length.ensures.value (omega (arith, c.if-length-eq0.false))
    ∙ c.attributes.invariant
