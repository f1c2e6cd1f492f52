use Rattle.std.proofs.Common.{◌≡◌, ◌+◌, take, ◌≤◌}
use Rattle.swift_base.specs.Lines.{column_behind}
use Rattle.swift_base.proofs.place.last_line.Given as goal

abbrev pub invariant-loop-byte : goal.invariant-loop-byte
invariant-loop-byte l = (l.columns + 1 ≡ column_behind (take l.byte-index l.before)) × (l.columns ≤ l.byte-index)
