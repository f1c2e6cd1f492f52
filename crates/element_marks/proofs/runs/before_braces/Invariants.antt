use Rattle.std.proofs.Common.{◌≡◌, ◌+◌, drop}
use Rattle.element_marks.specs.Sorts.{is_braces}
use Rattle.element_marks.specs.Runs.{before}
use Rattle.element_marks.proofs.runs.before_braces.Given as goal

abbrev pub invariant-elements : goal.invariant-elements
invariant-elements l = (l.count + before is_braces (drop l.mark-index l.marks) ≡ before is_braces l.marks) × (l.count ≡ l.mark-index)
