use Rattle.decl_parser.proofs.Accepting.{some_outline}
use Rattle.decl_parser.proofs.laws.some_outline.Goals as goal

pub returns : goal.returns
returns c = some_outline
