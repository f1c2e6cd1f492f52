use Rattle.swift_lexer.proofs.OneGrouping.{one_group_outcome}
use Rattle.swift_lexer.proofs.laws.one_group_outcome.Goals as goal

pub returns : goal.returns
returns c = one_group_outcome
