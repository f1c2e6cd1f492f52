use Rattle.result_splice.proofs.Lying.{keeps_the_rest}
use Rattle.result_splice.proofs.laws.bytes_outside_edits_are_kept.Goals as goal

pub returns : goal.returns
returns c = keeps_the_rest
