use Rattle.std.proofs.Common.{◌≡◌, ◌++◌, drop, map}
use Rattle.swift_tree.specs.Outlines.{outline_of}
use Rattle.macro_decls.specs.Macros.{written_from}
use Rattle.macro_decls.proofs.roles.written_of.Given as goal

abbrev pub invariant-outlines : goal.invariant-outlines
invariant-outlines l =
    (l.written.items ++ written_from l.number (map (λ outline. outline_of outline.now) (drop l.outline-index l.outlines))
    ≡ written_from 0 (map (λ outline. outline_of outline.now) l.outlines))
    × (l.number ≡ l.outline-index)
