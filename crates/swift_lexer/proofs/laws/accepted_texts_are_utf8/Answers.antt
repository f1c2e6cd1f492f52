use Rattle.swift_lexer.proofs.Characters.{accepted_texts_are_utf8}
use Rattle.swift_lexer.proofs.laws.accepted_texts_are_utf8.Goals as goal

pub returns : goal.returns
returns c = accepted_texts_are_utf8
