use Rattle.std.proofs.Common.{arith}
use Rattle.std.proofs.lemmas.Grind.{common_steps}
use Rattle.macro_decls.proofs.Trees.{trees_in-forest_of}
use Rattle.macro_decls.proofs.elements.round_from.Goals as goal

pub returns : goal.returns
returns c = rw (trees_in-forest_of c.args.inner.now) (grind (arith, common_steps))
