use Rattle.std.proofs.Common.{◌≡◌, ◌++◌, drop}
use Rattle.std.specs.List.{flat_map}
use Rattle.decl_parser.proofs.quiet.all_uses.Given as goal

abbrev pub invariant-insides : goal.invariant-insides
invariant-insides l = l.uses.items ++ flat_map (λ inside. inside.uses) (drop l.inside-index l.insides) ≡ flat_map (λ inside. inside.uses) l.insides
