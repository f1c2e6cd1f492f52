use Rattle.std.proofs.Common.{sym}
use Rattle.decl_parser.proofs.Lasts.{last_block_is}
use Rattle.decl_parser.proofs.parts.last_block.Goals as goal

pub returns-in-Some : goal.returns-in-Some
returns-in-Some c = last_block_is c.args.bounds.now c.in-Some.bound.now (sym c.in-Some.ensures.value)
