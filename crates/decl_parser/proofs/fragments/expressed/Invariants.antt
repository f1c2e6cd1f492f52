use Rattle.std.proofs.Common.{◌≡◌, drop}
use Rattle.decl_parser.specs.Fragments.{no_semicolon}
use Rattle.decl_parser.proofs.fragments.expressed.Given as goal

abbrev pub invariant-elements : goal.invariant-elements
invariant-elements l = no_semicolon (drop l.mark-index l.marks) ≡ no_semicolon l.marks
