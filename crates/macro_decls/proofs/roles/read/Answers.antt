use Rattle.std.proofs.Common.{ap, sym, ◌∙◌}
use Rattle.macro_decls.specs.Roles.{trees_of, trees_read}
use Rattle.macro_decls.proofs.Trees.{trees_in-forest_of}
use Rattle.macro_decls.proofs.roles.read.Goals as goal

pub returns-in-Ok : goal.returns-in-Ok
unfolding trees_of
returns-in-Ok c = sym (trees_in-forest_of c.in-Ok.elements.items) ∙ ap trees_read c.in-Ok.ensures
