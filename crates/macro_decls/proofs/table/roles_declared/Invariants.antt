use Rattle.std.proofs.Common.{◌≡◌, ◌++◌, filter_map}
use Rattle.std.specs.Vec.Iter.{into_iter_items}
use Rattle.macro_decls.specs.Macros.{role_declared}
use Rattle.macro_decls.proofs.table.roles_declared.Given as goal

abbrev pub invariant-roles : goal.invariant-roles
invariant-roles l = l.roles.items ++ filter_map role_declared (into_iter_items l.one-iterator) ≡ filter_map role_declared l.fn.written.items
