use Rattle.std.proofs.Common.{◌≡◌, drop}
use Rattle.swift_tree.specs.Outlines.{items_of}
use Rattle.result_reader.specs.Fit.{first_start, is_declaration}
use Rattle.result_reader.proofs.fit.first_declaration.Given as goal

abbrev pub invariant-items : goal.invariant-items
invariant-items l =
    first_start (λ head. is_declaration head.kind) (items_of l.items) ≡ first_start (λ head. is_declaration head.kind) (items_of (drop l.item-index l.items))
