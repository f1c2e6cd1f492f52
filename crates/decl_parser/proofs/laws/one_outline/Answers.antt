use Rattle.decl_parser.proofs.Accepting.{one_outline}
use Rattle.decl_parser.proofs.laws.one_outline.Goals as goal

pub returns : goal.returns
returns c = one_outline
