use Rattle.expansion_model.proofs.UniqueWords.{words_are_not_unique}
use Rattle.expansion_model.proofs.laws.words_are_not_unique.Goals as goal

pub returns : goal.returns
returns c = words_are_not_unique
