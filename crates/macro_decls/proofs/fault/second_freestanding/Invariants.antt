use Rattle.std.proofs.Common.{◌≡◌, drop, filter, slice_get, if◌then◌else◌}
use Rattle.macro_decls.proofs.fault.second_freestanding.Given as goal

abbrev pub invariant-roles : goal.invariant-roles
invariant-roles l =
    slice_get (filter (λ role. role.freestanding) l.roles) 1
    ≡ slice_get (filter (λ role. role.freestanding) (drop l.one-index l.roles)) (if l.passed then 0 else 1)
