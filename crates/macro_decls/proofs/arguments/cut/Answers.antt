use Rattle.std.proofs.Common.{◌∙◌}
use Rattle.macro_decls.proofs.Cutting.{cut-last, cut-more}
use Rattle.macro_decls.proofs.arguments.cut.Goals as goal

pub returns-then-length-rest : goal.returns-then-length-rest
returns-then-length-rest c =
    cut-last c.args.text.now _ _ _ c.pieces.rest.now _ c.in_ok-push.ensures.items c.front.ensures c.before_comma-length.ensures.value c.if-length-rest.true
    ∙ c.pieces.invariant

pub pieces-preserved : goal.pieces-preserved
pieces-preserved c =
    cut-more c.args.text.now _ _ _ c.pieces.rest.now _ c.in_ok-push.ensures.items c.front.ensures c.before_comma-length.ensures.value c.if-length-rest.false _ c.behind-rest.ensures
    ∙ c.pieces.invariant
