use Rattle.std.proofs.Common.{subst}
use Rattle.memchr.specs.Find.{FindsNeedle}
use Rattle.element_marks.specs.declared.words.TheConstants.{RESERVED}
use Rattle.decl_parser.proofs.Reserved.{none_reserved}
use Rattle.decl_parser.proofs.parse.holds_reserved.Goals as goal

pub returns-in-None : goal.returns-in-None
returns-in-None c = λ is. none_reserved c.args.text.now (subst (FindsNeedle c.args.text.now RESERVED.now 0) c.in-None.is c.find.ensures)
