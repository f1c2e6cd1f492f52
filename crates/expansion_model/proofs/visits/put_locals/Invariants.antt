use Rattle.std.proofs.Common.{◌≡◌, ◌++◌, drop}
use Rattle.std.specs.List.{flat_map}
use Rattle.expansion_model.specs.Sites.{local_sites}
use Rattle.expansion_model.proofs.visits.put_locals.Given as goal

abbrev pub invariant-locals : goal.invariant-locals
invariant-locals l = l.sites.items ++ flat_map (local_sites l.text l.macros) (drop l.attribute-index l.locals) ≡ l.initial.sites.items ++ flat_map (local_sites l.text l.macros) l.locals
