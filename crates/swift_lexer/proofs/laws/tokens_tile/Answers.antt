use Rattle.swift_lexer.proofs.Tiling.{tokens_tile}
use Rattle.swift_lexer.proofs.laws.tokens_tile.Goals as goal

pub returns : goal.returns
returns c = tokens_tile
