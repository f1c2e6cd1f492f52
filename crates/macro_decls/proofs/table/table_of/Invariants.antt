use Rattle.std.proofs.Common.{◌≡◌, ◌++◌}
use Rattle.std.specs.Vec.Iter.{into_iter_items}
use Rattle.macro_decls.specs.Tables.{AreFresh, AreNamed, declarations_in}
use Rattle.macro_decls.proofs.table.table_of.Given as goal

abbrev pub invariant-declarations : goal.invariant-declarations
invariant-declarations l =
    AreNamed l.entries.entries
    × (declarations_in l.entries.entries ++ into_iter_items l.declaration-iterator ≡ l.fn.declarations.items)
    × AreFresh (declarations_in l.entries.entries) (into_iter_items l.declaration-iterator)
