use Rattle.std.proofs.Common.{ap, ◌∙◌, sym}
use Rattle.swift_lexer.specs.Trees.{tree_of, nest, forest_of}
use Rattle.swift_lexer.proofs.Trees.{tree_of-leaf, tree_of-nest}
use Rattle.sample_macros.proofs.argument.shape_of.Goals as goal

pub returns-in-Leaf : goal.returns-in-Leaf
returns-in-Leaf c = ap tree_of c.in-Leaf.is ∙ tree_of-leaf _

pub returns-in-Nest : goal.returns-in-Nest
returns-in-Nest c =
    ap tree_of c.in-Nest.is ∙ tree_of-nest c.in-Nest.group
    ∙ ap (λ group. nest group.left (forest_of c.in-Nest.group.value.inner.items) c.in-Nest.group.value.right) (sym c.deref.ensures)
    ∙ ap (λ row. nest c.deref.result.now.left (forest_of row) c.in-Nest.group.value.right) (sym (c.deref-in-Nest-2.ensures.value ∙ ap (λ group. group.inner.items) c.deref-in-Nest.ensures))
    ∙ ap (λ group. nest c.deref.result.now.left (forest_of c.deref-in-Nest-2.result.now) group.right) (sym c.deref-in-Nest-3.ensures)
