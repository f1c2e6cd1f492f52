use Rattle.std.proofs.Common.{◌≡◌, ◌++◌, drop, map}
use Rattle.std.specs.List.{flat_map}
use Rattle.expand_top.specs.Meaning.{fault_line, named_seen}
use Rattle.expand_top.specs.Means.{IsAt}
use Rattle.expand_top.proofs.meaning.fault_lines.Given as goal

abbrev pub invariant-faults : goal.invariant-faults
invariant-faults l = IsAt (map named_seen l.files) l.at × (l.lines.items ++ flat_map (fault_line (map named_seen l.files)) (drop l.fault-index l.found) ≡ flat_map (fault_line (map named_seen l.files)) l.found)
