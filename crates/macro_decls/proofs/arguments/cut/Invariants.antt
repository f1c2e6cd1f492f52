use Rattle.std.proofs.Common.{◌≡◌, ◌++◌, length, map}
use Rattle.swift_lexer.specs.Trees.{tree_of}
use Rattle.macro_decls.specs.Arguments.{cut}
use Rattle.macro_decls.proofs.arguments.cut.Given as goal

abbrev pub invariant-pieces : goal.invariant-pieces
invariant-pieces l =
    map (λ piece. map tree_of piece.now) l.pieces.items ++ cut l.text 0 0 (map tree_of l.rest) ≡ cut l.text 0 0 (map tree_of l.elements)

abbrev pub decreases-pieces : goal.decreases-pieces
decreases-pieces l = length l.rest
