use Rattle.std.proofs.Common.{◌≡◌, ◌≤◌, ◌-◌, length}
use Rattle.decl_parser.specs.Found.{found_from, seen}
use Rattle.decl_parser.proofs.FoundWalks.{found_behind}
use Rattle.decl_parser.proofs.found.found_by_steps.Given as goal

abbrev pub invariant-elements : goal.invariant-elements
invariant-elements l = (found_behind l.search.blocks.starts.now l.search.own l.search.list.now l.search.from l.search.insides.now l.at (seen l.findings)
    ≡ found_from l.search.blocks.starts.now l.search.own l.search.list.now l.search.from 0 (length l.search.list.now - l.search.from) l.search.insides.now) × (l.search.from ≤ l.at) × (l.at ≤ length l.search.list.now)

abbrev pub decreases-elements : goal.decreases-elements
decreases-elements l = length l.search.list.now - l.at
