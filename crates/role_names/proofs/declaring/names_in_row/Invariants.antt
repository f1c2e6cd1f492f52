use Rattle.std.proofs.Common.{◌≡◌, ◌++◌, drop}
use Rattle.swift_tree.specs.Outlines.{items_of}
use Rattle.role_names.specs.DeclaredNames.{names_in_row}
use Rattle.role_names.proofs.declaring.names_in_row.Given as goal

abbrev pub invariant-items : goal.invariant-items
invariant-items l = l.names.items ++ names_in_row (items_of (drop l.item-index l.items)) ≡ names_in_row (items_of l.items)
