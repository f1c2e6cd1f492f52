use Rattle.std.proofs.Common.{◌≡◌, ◌++◌, drop}
use Rattle.swift_tree.specs.Outlines.{items_of}
use Rattle.result_reader.specs.Names.{names_of}
use Rattle.result_reader.proofs.names.names_of.Given as goal

abbrev pub invariant-items : goal.invariant-items
invariant-items l = l.names.items ++ names_of (items_of (drop l.item-index l.items)) ≡ names_of (items_of l.items)
