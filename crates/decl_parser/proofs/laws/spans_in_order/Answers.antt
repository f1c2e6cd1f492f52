use Rattle.decl_parser.proofs.LevelsInOrder.{spans_in_order}
use Rattle.decl_parser.proofs.laws.spans_in_order.Goals as goal

pub returns : goal.returns
returns c = spans_in_order
