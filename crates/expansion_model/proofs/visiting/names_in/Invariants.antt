use Rattle.std.proofs.Common.{◌≡◌, length}
use Rattle.expansion_model.specs.Visit.{names_in}
use Rattle.expansion_model.proofs.visiting.names_in.Given as goal

abbrev pub invariant-roles : goal.invariant-roles
invariant-roles l = names_in l.wanted l.roles ≡ names_in l.wanted l.rest

abbrev pub decreases-roles : goal.decreases-roles
decreases-roles l = length l.rest
