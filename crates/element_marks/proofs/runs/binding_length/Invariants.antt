use Rattle.std.proofs.Common.{◌≡◌, ◌+◌, ◌*◌, ◌^◌, ◌≤◌, drop, false}
use Rattle.element_marks.specs.Runs.{binding_length}
use Rattle.element_marks.proofs.runs.binding_length.Given as goal

abbrev pub invariant-elements : goal.invariant-elements
invariant-elements l = (l.count + binding_length l.initialized l.opened l.closed (drop l.mark-index l.marks) ≡ binding_length false 0 0 l.marks) × (l.count ≡ l.mark-index) × (l.opened ≤ l.mark-index * 2 ^ 32) × (l.closed ≤ l.mark-index * 2 ^ 32)
