use Rattle.unique_names.proofs.Laws.{keys_decide}
use Rattle.unique_names.proofs.key.equal_keys_are_one.Goals as goal

pub returns : goal.returns
returns c = keys_decide
