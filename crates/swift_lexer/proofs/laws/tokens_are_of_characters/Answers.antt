use Rattle.swift_lexer.proofs.Characters.{tokens_are_of_characters}
use Rattle.swift_lexer.proofs.laws.tokens_are_of_characters.Goals as goal

pub returns : goal.returns
returns c = tokens_are_of_characters
