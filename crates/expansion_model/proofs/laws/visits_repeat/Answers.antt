use Rattle.expansion_model.proofs.Repeats.{repeats}
use Rattle.expansion_model.proofs.laws.visits_repeat.Goals as goal

pub returns : goal.returns
returns c = repeats
