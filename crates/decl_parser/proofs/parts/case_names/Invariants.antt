use Rattle.std.proofs.Common.{◌≡◌, Some, length}
use Rattle.decl_parser.specs.Parts.{case_names, prefixed}
use Rattle.decl_parser.proofs.parts.case_names.Given as goal

abbrev pub invariant-elements : goal.invariant-elements
invariant-elements l = prefixed l.names.items (case_names l.wanted l.rest) ≡ case_names (Some l.anchor) l.marks

abbrev pub decreases-elements : goal.decreases-elements
decreases-elements l = length l.rest
