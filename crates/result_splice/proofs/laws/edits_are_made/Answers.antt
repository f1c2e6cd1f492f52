use Rattle.result_splice.proofs.Lying.{makes_edits}
use Rattle.result_splice.proofs.laws.edits_are_made.Goals as goal

pub returns : goal.returns
returns c = makes_edits
