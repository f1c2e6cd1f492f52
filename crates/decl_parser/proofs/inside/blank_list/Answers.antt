use Rattle.std.proofs.Common.{subst, sym}
use Rattle.decl_parser.specs.Insides.{AreBlank}
use Rattle.decl_parser.proofs.QuietGroups.{blank_push}
use Rattle.decl_parser.proofs.inside.blank_list.Goals as goal

pub tokens-preserved : goal.tokens-preserved
tokens-preserved c = subst AreBlank (sym c.in_ok-add.ensures) (blank_push c.tokens.list.items c.nothing_inside.result c.tokens.invariant c.nothing_inside.ensures)
