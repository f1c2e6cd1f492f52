use Rattle.swift_lexer.proofs.OneOutcome.{one_token_outcome}
use Rattle.swift_lexer.proofs.laws.one_token_outcome.Goals as goal

pub returns : goal.returns
returns c = one_token_outcome
