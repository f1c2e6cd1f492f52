use Rattle.std.proofs.Common.{◌≡◌, ◌+◌, length}
use Rattle.element_marks.specs.Heads.{dots_length}
use Rattle.element_marks.proofs.heads.dots_length.Given as goal

abbrev pub invariant-dots : goal.invariant-dots
invariant-dots l = (l.count + dots_length l.rest ≡ dots_length l.fn.marks) × (l.count + length l.rest ≡ length l.fn.marks)

abbrev pub decreases-dots : goal.decreases-dots
decreases-dots l = length l.rest
