use Rattle.std.proofs.Common.{◌≡◌, ◌+◌, ◌≤◌, drop}
use Rattle.expansion_model.specs.Sites.{before_use}
use Rattle.expansion_model.proofs.visits.before_use.Given as goal

abbrev pub invariant-locals : goal.invariant-locals
invariant-locals l = (l.count ≤ l.attribute-index) × (l.count + before_use l.macro_use (drop l.attribute-index l.locals) ≡ before_use l.macro_use l.locals)
