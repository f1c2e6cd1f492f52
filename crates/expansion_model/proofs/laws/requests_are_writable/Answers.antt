use Rattle.expansion_model.proofs.AskedWritable.{asked_writable}
use Rattle.expansion_model.proofs.laws.requests_are_writable.Goals as goal

pub returns : goal.returns
returns c = asked_writable
