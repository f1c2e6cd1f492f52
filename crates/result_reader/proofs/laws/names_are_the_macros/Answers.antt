use Rattle.result_reader.proofs.Kept.{declares_its_names}
use Rattle.result_reader.proofs.laws.names_are_the_macros.Goals as goal

pub returns : goal.returns
returns c = declares_its_names
