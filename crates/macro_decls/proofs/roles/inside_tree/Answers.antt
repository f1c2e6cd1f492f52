use Rattle.std.proofs.Common.{◌∙◌, ap, sym}
use Rattle.macro_decls.specs.Roles.{inside_tree}
use Rattle.macro_decls.specs.Elements.{tree_seen}
use Rattle.macro_decls.proofs.Trees.{trees_in-forest_of}
use Rattle.macro_decls.proofs.roles.inside_tree.Goals as goal

pub returns-in-Nest : goal.returns-in-Nest
returns-in-Nest c =
    sym (trees_in-forest_of c.in-Nest.inner.now) ∙ sym (ap (λ s. inside_tree (tree_seen s)) c.in-Nest.is) ∙ sym (ap inside_tree c.shape_of.ensures)
