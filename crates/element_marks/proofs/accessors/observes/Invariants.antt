use Rattle.std.proofs.Common.{◌≡◌, ◌-◌, drop, length}
use Rattle.element_marks.specs.Accessors.{observes_from}
use Rattle.element_marks.proofs.accessors.observes.Given as goal

abbrev pub invariant-prefix : goal.invariant-prefix
invariant-prefix l = observes_from 0 (drop l.at l.marks) ≡ observes_from 0 l.marks

abbrev pub decreases-prefix : goal.decreases-prefix
decreases-prefix l = length l.marks - l.at
