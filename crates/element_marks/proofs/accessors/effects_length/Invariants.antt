use Rattle.std.proofs.Common.{◌≡◌, ◌+◌, drop, false}
use Rattle.element_marks.specs.Accessors.{effects_length}
use Rattle.element_marks.proofs.accessors.effects_length.Given as goal

abbrev pub invariant-effects : goal.invariant-effects
invariant-effects l = (l.count + effects_length l.throwing (drop l.mark-index l.marks) ≡ effects_length false l.marks) × (l.count ≡ l.mark-index)
