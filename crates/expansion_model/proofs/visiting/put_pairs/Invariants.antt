use Rattle.std.proofs.Common.{◌≡◌, ◌++◌, drop, map}
use Rattle.expansion_model.proofs.visiting.put_pairs.Given as goal

abbrev pub invariant-roles : goal.invariant-roles
invariant-roles l = l.pairs.items ++ map (λ own. record { macro_name = l.declared.name; role = own.role }) (drop l.own-index l.declared.roles) ≡ l.initial.pairs.items ++ map (λ own. record { macro_name = l.declared.name; role = own.role }) l.declared.roles
