use Rattle.swift_lexer.proofs.Reaching.{groups_hold_the_tokens}
use Rattle.swift_lexer.proofs.laws.groups_hold_the_tokens.Goals as goal

pub returns : goal.returns
returns c = groups_hold_the_tokens
