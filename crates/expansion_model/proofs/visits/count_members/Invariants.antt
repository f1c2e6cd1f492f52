use Rattle.std.proofs.Common.{◌≡◌, ◌+◌, ◌≤◌, drop}
use Rattle.swift_tree.specs.Outlines.{items_of}
use Rattle.expansion_model.specs.Sites.{count_members}
use Rattle.expansion_model.proofs.visits.count_members.Given as goal

abbrev pub invariant-items : goal.invariant-items
invariant-items l = (l.count ≤ l.item-index) × (l.count + count_members (items_of (drop l.item-index l.items)) ≡ count_members (items_of l.items))
