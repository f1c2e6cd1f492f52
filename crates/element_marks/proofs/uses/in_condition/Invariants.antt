use Rattle.std.proofs.Common.{◌≡◌, length, reverse}
use Rattle.element_marks.specs.Uses.{in_condition}
use Rattle.element_marks.proofs.uses.in_condition.Given as goal

abbrev pub invariant-elements : goal.invariant-elements
invariant-elements l = in_condition (reverse l.rest) ≡ in_condition (reverse l.before)

abbrev pub decreases-elements : goal.decreases-elements
decreases-elements l = length l.rest
