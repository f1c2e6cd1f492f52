use Rattle.std.proofs.Common.{◌≡◌, ◌++◌, drop}
use Rattle.std.specs.List.{flat_map}
use Rattle.decl_parser.proofs.quiet.all_locals.Given as goal

abbrev pub invariant-insides : goal.invariant-insides
invariant-insides l = l.locals.items ++ flat_map (λ inside. inside.locals) (drop l.inside-index l.insides) ≡ flat_map (λ inside. inside.locals) l.insides
