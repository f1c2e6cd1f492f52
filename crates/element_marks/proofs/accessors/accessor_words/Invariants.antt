use Rattle.std.proofs.Common.{◌≡◌, ◌-◌, drop, true, length}
use Rattle.element_marks.specs.Accessors.{accessors_from}
use Rattle.element_marks.proofs.Walks.{behind_words}
use Rattle.element_marks.proofs.accessors.accessor_words.Given as goal

abbrev pub invariant-accessors : goal.invariant-accessors
invariant-accessors l = behind_words l.words.items (accessors_from true 0 (drop l.at l.marks)) ≡ accessors_from true 0 l.marks

abbrev pub decreases-accessors : goal.decreases-accessors
decreases-accessors l = length l.marks - l.at
