use Rattle.result_splice.proofs.Lying.{pieces_are_the_text}
use Rattle.result_splice.proofs.laws.pieces_are_the_text.Goals as goal

pub returns : goal.returns
returns c = pieces_are_the_text
