use Rattle.std.proofs.Common.{◌≡◌, ◌++◌, drop, map}
use Rattle.swift_tree.specs.Outlines.{outline_of}
use Rattle.expand_top.proofs.meaning.borrowed.Given as goal

abbrev pub invariant-outlines : goal.invariant-outlines
invariant-outlines l = map (λ o. outline_of o.now) l.list.items ++ map outline_of (drop l.outline-index l.outlines) ≡ map outline_of l.outlines
