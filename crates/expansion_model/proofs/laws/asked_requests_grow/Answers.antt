use Rattle.expansion_model.proofs.AskedGrow.{asked_grow}
use Rattle.expansion_model.proofs.laws.asked_requests_grow.Goals as goal

pub returns : goal.returns
returns c = asked_grow
