use Rattle.std.proofs.Common.{drop}
use Rattle.swift_lexer.specs.Openings.{Stands}
use Rattle.swift_lexer.proofs.grouping.group.Given as goal

abbrev pub invariant-loop-token : goal.invariant-loop-token
invariant-loop-token l = Stands l.text l.tokens l.grouping (drop l.token-index l.tokens)
