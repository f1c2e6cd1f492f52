use Rattle.std.proofs.Common.{◌≡◌, ◌++◌, drop}
use Rattle.std.specs.List.{flat_map}
use Rattle.expansion_model.specs.Attributes.{carrier, attribute_sites}
use Rattle.expansion_model.proofs.attributes.put_attributes.Given as goal

abbrev pub invariant-attributes : goal.invariant-attributes
invariant-attributes l = l.sites.items ++ flat_map (attribute_sites l.text l.macros l.plugins (carrier l.item)) (drop l.attribute-index l.attributes) ≡ l.initial.sites.items ++ flat_map (attribute_sites l.text l.macros l.plugins (carrier l.item)) l.attributes
