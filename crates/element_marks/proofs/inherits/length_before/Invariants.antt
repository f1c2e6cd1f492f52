use Rattle.std.proofs.Common.{◌≡◌, ◌+◌, ◌*◌, ◌^◌, ◌≤◌, drop}
use Rattle.element_marks.specs.Inherits.{length_before}
use Rattle.element_marks.proofs.inherits.length_before.Given as goal

abbrev pub invariant-elements : goal.invariant-elements
invariant-elements l = (l.count + length_before l.stop l.opened l.closed (drop l.mark-index l.marks) ≡ length_before l.stop 0 0 l.marks) × (l.count ≡ l.mark-index) × (l.opened ≤ l.mark-index * 2 ^ 32) × (l.closed ≤ l.mark-index * 2 ^ 32)
