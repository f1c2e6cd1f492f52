use Rattle.std.proofs.Common.{◌≡◌, ◌-◌, drop, false, length}
use Rattle.element_marks.specs.Accessors.{accessors_from, is_some}
use Rattle.element_marks.proofs.Walks.{fine}
use Rattle.element_marks.proofs.accessors.lists_accessors.Given as goal

abbrev pub invariant-accessors : goal.invariant-accessors
invariant-accessors l = fine l.at (accessors_from false 0 (drop l.at l.marks)) ≡ is_some (accessors_from false 0 l.marks)

abbrev pub decreases-accessors : goal.decreases-accessors
decreases-accessors l = length l.marks - l.at
