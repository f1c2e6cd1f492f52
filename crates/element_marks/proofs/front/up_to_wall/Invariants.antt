use Rattle.std.proofs.Common.{◌≤◌, length, min, ◌-◌}
use Rattle.element_marks.proofs.front.up_to_wall.Given as goal

abbrev pub invariant-elements : goal.invariant-elements
invariant-elements l = (l.length ≤ length l.fn.elements) × (min l.fn.least (length l.fn.elements) ≤ l.length)

abbrev pub decreases-elements : goal.decreases-elements
decreases-elements l = length l.fn.elements - l.length
