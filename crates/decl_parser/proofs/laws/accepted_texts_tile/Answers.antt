use Rattle.decl_parser.proofs.Accepting.{accepted_texts_tile}
use Rattle.decl_parser.proofs.laws.accepted_texts_tile.Goals as goal

pub returns : goal.returns
returns c = accepted_texts_tile
