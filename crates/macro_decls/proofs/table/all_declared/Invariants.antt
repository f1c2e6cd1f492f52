use Rattle.std.proofs.Common.{◌≡◌, ◌++◌, filter_map}
use Rattle.std.specs.Vec.Iter.{into_iter_items}
use Rattle.macro_decls.specs.Macros.{declared}
use Rattle.macro_decls.proofs.table.all_declared.Given as goal

abbrev pub invariant-macros : goal.invariant-macros
invariant-macros l = l.declarations.items ++ filter_map declared (into_iter_items l.one-iterator) ≡ filter_map declared l.fn.written.items
