use Rattle.std.proofs.Common.{◌≡◌, ◌++◌, length}
use Rattle.element_marks.specs.Inherits.{pieces}
use Rattle.element_marks.proofs.inherits.pieces.Given as goal

abbrev pub invariant-pieces : goal.invariant-pieces
invariant-pieces l = l.types.items ++ pieces 0 l.rest ≡ pieces 0 l.clause

abbrev pub decreases-pieces : goal.decreases-pieces
decreases-pieces l = length l.rest
