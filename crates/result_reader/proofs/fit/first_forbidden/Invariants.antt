use Rattle.std.proofs.Common.{◌≡◌, drop}
use Rattle.swift_tree.specs.Outlines.{items_of}
use Rattle.result_reader.specs.Fit.{first_start, is_forbidden}
use Rattle.result_reader.proofs.fit.first_forbidden.Given as goal

abbrev pub invariant-items : goal.invariant-items
invariant-items l =
    first_start (is_forbidden l.file_scope l.text) (items_of l.items) ≡ first_start (is_forbidden l.file_scope l.text) (items_of (drop l.item-index l.items))
