use Rattle.expansion_model.proofs.SitesReadable.{sites_readable}
use Rattle.expansion_model.proofs.laws.asks_are_readable.Goals as goal

pub returns : goal.returns
returns c = sites_readable
