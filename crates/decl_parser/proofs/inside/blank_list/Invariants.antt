use Rattle.decl_parser.specs.Insides.{AreBlank}
use Rattle.decl_parser.proofs.inside.blank_list.Given as goal

abbrev pub invariant-tokens : goal.invariant-tokens
invariant-tokens l = AreBlank l.list.items
