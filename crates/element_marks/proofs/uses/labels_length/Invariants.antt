use Rattle.std.proofs.Common.{◌≡◌, ◌+◌, length}
use Rattle.element_marks.specs.Uses.{labels_length}
use Rattle.element_marks.proofs.uses.labels_length.Given as goal

abbrev pub invariant-labels : goal.invariant-labels
invariant-labels l = (l.count + labels_length l.blocks.starts.now l.rest ≡ labels_length l.blocks.starts.now l.fn.marks) × (l.count + length l.rest ≡ length l.fn.marks)

abbrev pub decreases-labels : goal.decreases-labels
decreases-labels l = length l.rest
