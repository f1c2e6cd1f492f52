use Rattle.result_reader.proofs.Kept.{keeps_the_outline}
use Rattle.result_reader.proofs.laws.outline_is_the_replys.Goals as goal

pub returns : goal.returns
returns c = keeps_the_outline
