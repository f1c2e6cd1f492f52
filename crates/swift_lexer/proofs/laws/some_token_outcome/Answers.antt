use Rattle.swift_lexer.proofs.SomeOutcome.{some_token_outcome}
use Rattle.swift_lexer.proofs.laws.some_token_outcome.Goals as goal

pub returns : goal.returns
returns c = some_token_outcome
