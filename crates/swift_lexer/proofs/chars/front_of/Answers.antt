use Rattle.std.proofs.Common.{◌∙◌, arith}
use Rattle.swift_lexer.proofs.AsciiFronts.{front_at}
use Rattle.swift_lexer.proofs.chars.front_of.Goals as goal

pub returns-in-Some : goal.returns-in-Some
returns-in-Some c = c.in-Some.ensures.lookup.1 ∙ front_at c.args.c _ (omega (arith, c.in-Some.ensures.lookup.3.0))
