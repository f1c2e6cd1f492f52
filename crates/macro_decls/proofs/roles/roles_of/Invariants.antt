use Rattle.std.proofs.Common.{◌≡◌, ◌++◌, drop, filter, map}
use Rattle.macro_decls.specs.Roles.{gives_role, role_written}
use Rattle.macro_decls.proofs.roles.roles_of.Given as goal

abbrev pub invariant-attrs : goal.invariant-attrs
invariant-attrs l =
    l.roles.items ++ map (role_written l.text) (filter (gives_role l.text) (drop l.attr-index l.attrs)) ≡ map (role_written l.text) (filter (gives_role l.text) l.attrs)
