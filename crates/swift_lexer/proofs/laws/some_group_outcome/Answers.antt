use Rattle.swift_lexer.proofs.SomeGrouping.{some_group_outcome}
use Rattle.swift_lexer.proofs.laws.some_group_outcome.Goals as goal

pub returns : goal.returns
returns c = some_group_outcome
