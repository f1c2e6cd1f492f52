use Rattle.expansion_model.proofs.AskedAlone.{answers_alone}
use Rattle.expansion_model.proofs.laws.answers_by_asked_alone.Goals as goal

pub returns : goal.returns
returns c = answers_alone
