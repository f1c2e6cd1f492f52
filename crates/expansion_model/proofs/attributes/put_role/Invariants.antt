use Rattle.std.proofs.Common.{◌≡◌, ◌++◌, drop}
use Rattle.std.specs.List.{flat_map}
use Rattle.expansion_model.specs.Attributes.{carrier, role_requests}
use Rattle.expansion_model.proofs.attributes.put_role.Given as goal

abbrev pub invariant-attributes : goal.invariant-attributes
invariant-attributes l = l.sites.items ++ flat_map (role_requests l.text l.macros l.plugins (carrier l.item) l.wanted l.count) (drop l.attribute-index l.attributes) ≡ l.initial.sites.items ++ flat_map (role_requests l.text l.macros l.plugins (carrier l.item) l.wanted l.count) l.attributes
