use Rattle.std.proofs.Common.{◌≡◌, ◌++◌, drop, map, None}
use Rattle.swift_lexer.specs.Trees.{tree_of}
use Rattle.macro_decls.specs.Arguments.{argument_seen, arguments}
use Rattle.macro_decls.proofs.arguments.arguments.Given as goal

abbrev pub invariant-pieces : goal.invariant-pieces
invariant-pieces l =
    map argument_seen l.list.items ++ arguments l.text l.current (map (λ piece. map tree_of piece.now) (drop l.piece-index l.pieces))
    ≡ arguments l.text None (map (λ piece. map tree_of piece.now) l.pieces)
