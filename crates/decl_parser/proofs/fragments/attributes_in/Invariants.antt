use Rattle.std.proofs.Common.{◌≡◌, ◌-◌, drop, length}
use Rattle.decl_parser.specs.Parts.{prefixed}
use Rattle.decl_parser.specs.Fragments.{attributes_from}
use Rattle.decl_parser.proofs.fragments.attributes_in.Given as goal

abbrev pub invariant-attributes : goal.invariant-attributes
invariant-attributes l = prefixed l.attrs.items (attributes_from 0 (drop l.at l.marks) (drop l.at l.insides)) ≡ attributes_from 0 l.marks l.insides

abbrev pub decreases-attributes : goal.decreases-attributes
decreases-attributes l = length l.marks - l.at
