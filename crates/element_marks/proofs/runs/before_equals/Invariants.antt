use Rattle.std.proofs.Common.{◌≡◌, ◌+◌, drop}
use Rattle.element_marks.specs.Sorts.{is_equals}
use Rattle.element_marks.specs.Runs.{before}
use Rattle.element_marks.proofs.runs.before_equals.Given as goal

abbrev pub invariant-elements : goal.invariant-elements
invariant-elements l = (l.count + before is_equals (drop l.mark-index l.marks) ≡ before is_equals l.marks) × (l.count ≡ l.mark-index)
