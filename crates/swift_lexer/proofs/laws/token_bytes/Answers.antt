use Rattle.swift_lexer.proofs.TokenBytes.{token_bytes}
use Rattle.swift_lexer.proofs.laws.token_bytes.Goals as goal

pub returns : goal.returns
returns c = token_bytes
