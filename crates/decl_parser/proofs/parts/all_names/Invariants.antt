use Rattle.std.proofs.Common.{◌≡◌, ◌++◌, drop}
use Rattle.decl_parser.specs.Parts.{all_names}
use Rattle.decl_parser.proofs.parts.all_names.Given as goal

abbrev pub invariant-bounds : goal.invariant-bounds
invariant-bounds l = l.names.items ++ all_names (drop l.bound-index l.bounds) ≡ all_names l.bounds
