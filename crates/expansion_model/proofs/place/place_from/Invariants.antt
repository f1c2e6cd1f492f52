use Rattle.std.proofs.Common.{◌≡◌, ◌≤◌, take, ◌-◌}
use Rattle.swift_base.specs.Lines.{line_behind, column_behind}
use Rattle.expansion_model.proofs.place.place_from.Given as goal

abbrev pub invariant-bytes : goal.invariant-bytes
invariant-bytes l = (l.at ≤ l.end) × (l.line ≡ line_behind (take l.at l.text)) × (l.column ≡ column_behind (take l.at l.text))

abbrev pub decreases-bytes : goal.decreases-bytes
decreases-bytes l = l.end - l.at
