use Rattle.std.proofs.Common.{◌∙◌, ap, arith}
use Rattle.element_marks.specs.Heads.{attribute_length}
use Rattle.element_marks.proofs.Walks.{word_further}
use Rattle.element_marks.proofs.accessors.word_length.Goals as goal

pub prefix-preserved-then-attribute-gt0 : goal.prefix-preserved-then-attribute-gt0
prefix-preserved-then-attribute-gt0 c =
    word_further c.prefix.count c.attribute_length-attribute.result c.args.marks.now (c.attribute_length-attribute.ensures.value ∙ ap attribute_length c.behind.ensures) (omega (arith, c.if-attribute-gt0.true)) ∙ c.prefix.invariant
