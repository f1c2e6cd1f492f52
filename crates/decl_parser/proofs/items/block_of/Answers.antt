use Rattle.std.proofs.Common.{◌∙◌, ap, sym, map}
use Rattle.swift_tree.specs.Outlines as outlines
use Rattle.swift_tree.proofs.Folds.{block_of-roll}
use Rattle.decl_parser.specs.Cut.{block_of}
use Rattle.decl_parser.proofs.items.block_of.Goals as goal

pub returns : goal.returns
returns c =
    ap outlines.block_of c.in_ok-new.ensures.ok
    ∙ block_of-roll (record { span = c.in-Some.field-0.span; shape = c.in-Some.field-0.shape; members = c.args.members })
    ∙ sym (ap (λ b. block_of b (map outlines.item_of c.args.members.items)) c.in-Some.is)
