use Rattle.decl_parser.proofs.Accepting.{outline_keeps_the_text}
use Rattle.decl_parser.proofs.laws.outline_keeps_the_text.Goals as goal

pub returns : goal.returns
returns c = outline_keeps_the_text
