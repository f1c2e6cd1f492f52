use Rattle.swift_lexer.proofs.Standing.{Stands-start}
use Rattle.swift_lexer.proofs.grouping.group.Goals as goal

pub loop-token-init : goal.loop-token-init
loop-token-init c = Stands-start c.args.text.now c.args.tokens.now _ c.nothing_open-grouping.ensures.levels c.nothing_open-grouping.ensures.here
