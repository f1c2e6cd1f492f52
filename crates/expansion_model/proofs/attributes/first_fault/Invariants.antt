use Rattle.std.proofs.Common.{◌≡◌, length}
use Rattle.expansion_model.specs.Attributes.{carrier, first_fault}
use Rattle.expansion_model.proofs.attributes.first_fault.Given as goal

abbrev pub invariant-roles : goal.invariant-roles
invariant-roles l = first_fault l.plugins (carrier l.item) l.declared l.roles ≡ first_fault l.plugins (carrier l.item) l.declared l.rest

abbrev pub decreases-roles : goal.decreases-roles
decreases-roles l = length l.rest
