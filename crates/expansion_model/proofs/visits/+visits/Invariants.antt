use Rattle.std.proofs.Common.{◌≡◌, ◌++◌, drop}
use Rattle.swift_tree.specs.Outlines.{items_of}
use Rattle.expansion_model.specs.Sites.{items_sites}
use Rattle.expansion_model.proofs.visits.+visits.Given as goal

abbrev pub invariant-put_items-items : goal.invariant-put_items-items
invariant-put_items-items l = l.sites.items ++ items_sites l.text l.macros l.plugins l.file_scope (items_of (drop l.item-index l.items)) ≡ l.initial.sites.items ++ items_sites l.text l.macros l.plugins l.file_scope (items_of l.items)
