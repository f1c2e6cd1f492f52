use Rattle.expansion_model.proofs.SitesApart.{sites_apart}
use Rattle.expansion_model.proofs.laws.sites_lie_apart.Goals as goal

pub returns : goal.returns
returns c = sites_apart
