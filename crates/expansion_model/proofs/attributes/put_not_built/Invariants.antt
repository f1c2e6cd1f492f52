use Rattle.std.proofs.Common.{◌≡◌, ◌++◌, replicate}
use Rattle.expansion_model.specs.declared.site.Site.TheVariants as site
use Rattle.expansion_model.proofs.attributes.put_not_built.Given as goal

abbrev pub invariant-requests : goal.invariant-requests
invariant-requests l = l.sites.items ++ replicate l.left (site.NotBuilt l.at) ≡ l.initial.sites.items ++ replicate l.count (site.NotBuilt l.at)

abbrev pub decreases-requests : goal.decreases-requests
decreases-requests l = l.left
