use Rattle.std.proofs.Common.{◌≡◌, ◌++◌, drop, map}
use Rattle.expansion_model.specs.Uses.{of_expression, use_site}
use Rattle.expansion_model.proofs.attributes.put_argument_uses.Given as goal

abbrev pub invariant-uses : goal.invariant-uses
invariant-uses l = l.sites.items ++ map (use_site l.text l.macros l.plugins of_expression) (drop l.macro_use-index l.uses) ≡ l.initial.sites.items ++ map (use_site l.text l.macros l.plugins of_expression) l.uses
