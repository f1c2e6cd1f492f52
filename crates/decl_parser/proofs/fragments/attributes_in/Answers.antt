use Rattle.std.proofs.Common.{◌≡◌, ◌∙◌, ap, arith, drop, ◌+◌}
use Rattle.element_marks.specs.Heads.{attribute_length}
use Rattle.decl_parser.specs.Attributes.{attr_of}
use Rattle.decl_parser.specs.Parts.{prefixed}
use Rattle.decl_parser.specs.Fragments.{attributes_from}
use Rattle.decl_parser.proofs.Fragmented.{attributes_further}
use Rattle.decl_parser.proofs.fragments.attributes_in.Goals as goal

pub attributes-preserved : goal.attributes-preserved
attributes-preserved c =
    let at = c.attributes.at in
    let length = c.attribute_length-length.result in
    let marks = c.args.marks.now in
    let insides = c.args.insides.now in
    let same : c.in_ok-attr.attr ≡ attr_of (drop at marks) (drop at insides) = c.in_ok-attr.ensures ∙ ap (λ m. attr_of m c.behind.result.now) c.behind-rest.ensures ∙ ap (attr_of (drop at marks)) c.behind.ensures in
    ap (λ l. prefixed l (attributes_from 0 (drop (at + length) marks) (drop (at + length) insides))) c.in_ok-add.ensures
    ∙ attributes_further at length marks insides c.attributes.attrs.items c.in_ok-attr.attr (c.attribute_length-length.ensures.value ∙ ap attribute_length c.behind-rest.ensures) (omega (arith, c.if-length-eq0.false)) same
    ∙ c.attributes.invariant
