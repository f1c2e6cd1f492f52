use Rattle.std.proofs.Common.{◌≡◌, ◌+◌, drop, false}
use Rattle.element_marks.specs.Runs.{run_length}
use Rattle.element_marks.proofs.runs.run_length.Given as goal

abbrev pub invariant-elements : goal.invariant-elements
invariant-elements l = (l.count + run_length l.joined (drop l.mark-index l.marks) ≡ run_length false l.marks) × (l.count ≡ l.mark-index)
