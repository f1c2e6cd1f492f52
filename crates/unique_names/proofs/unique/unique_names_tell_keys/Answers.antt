use Rattle.unique_names.proofs.Made.{tell_keys}
use Rattle.unique_names.proofs.unique.unique_names_tell_keys.Goals as goal

pub returns : goal.returns
returns c = tell_keys
