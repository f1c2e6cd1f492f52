use Rattle.std.proofs.Common.{◌≡◌, ◌-◌, drop, length}
use Rattle.element_marks.specs.Accessors.{word_from}
use Rattle.element_marks.proofs.accessors.word_length.Given as goal

abbrev pub invariant-prefix : goal.invariant-prefix
invariant-prefix l = word_from l.count 0 (drop l.count l.marks) ≡ word_from 0 0 l.marks

abbrev pub decreases-prefix : goal.decreases-prefix
decreases-prefix l = length l.marks - l.count
