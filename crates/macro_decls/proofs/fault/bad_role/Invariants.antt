use Rattle.std.proofs.Common.{◌≡◌, ◌≤◌, ◌-◌, [], drop, length, take}
use Rattle.macro_decls.specs.Faults.{bad_role}
use Rattle.macro_decls.proofs.fault.bad_role.Given as goal

abbrev pub invariant-roles : goal.invariant-roles
invariant-roles l = (bad_role [] l.roles ≡ bad_role (take l.at l.roles) (drop l.at l.roles)) × (l.at ≤ length l.roles)

abbrev pub decreases-roles : goal.decreases-roles
decreases-roles l = length l.roles - l.at
