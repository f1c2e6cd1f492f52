use Rattle.std.proofs.Common.{◌≡◌, length}
use Rattle.element_marks.specs.Inherits.{named_type}
use Rattle.element_marks.proofs.inherits.named_type.Given as goal

abbrev pub invariant-attributes : goal.invariant-attributes
invariant-attributes l = named_type 0 l.rest ≡ named_type 0 l.marks

abbrev pub decreases-attributes : goal.decreases-attributes
decreases-attributes l = length l.rest
