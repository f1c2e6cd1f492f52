use Rattle.std.proofs.Common.{◌≡◌, ◌++◌, drop}
use Rattle.decl_parser.specs.Parts.{all_blocks}
use Rattle.decl_parser.proofs.parts.all_blocks.Given as goal

abbrev pub invariant-bounds : goal.invariant-bounds
invariant-bounds l = l.blocks.items ++ all_blocks (drop l.bound-index l.bounds) ≡ all_blocks l.bounds
