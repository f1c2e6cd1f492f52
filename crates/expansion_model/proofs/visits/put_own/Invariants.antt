use Rattle.std.proofs.Common.{◌≡◌, ◌++◌, drop}
use Rattle.expansion_model.specs.Sites.{own_sites}
use Rattle.expansion_model.proofs.visits.put_own.Given as goal

abbrev pub invariant-uses : goal.invariant-uses
invariant-uses l = l.sites.items ++ own_sites l.text l.macros l.plugins l.wanted (drop l.macro_use-index l.uses) l.rest ≡ l.initial.sites.items ++ own_sites l.text l.macros l.plugins l.wanted l.uses l.locals
