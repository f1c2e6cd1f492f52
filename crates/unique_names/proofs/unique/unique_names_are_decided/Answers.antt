use Rattle.unique_names.proofs.Made.{are_decided}
use Rattle.unique_names.proofs.unique.unique_names_are_decided.Goals as goal

pub returns : goal.returns
returns c = are_decided
