use Rattle.std.proofs.Common.{◌∙◌, ap, sym, Some}
use Rattle.swift_lexer.specs.Trees.{tree_of, forest_of}
use Rattle.swift_lexer.proofs.Trees.{tree_of-leaf, tree_of-nest}
use Rattle.decl_parser.specs.Levels.{tree_inside}
use Rattle.decl_parser.proofs.levels.group_inside.Goals as goal

pub returns-in-Leaf : goal.returns-in-Leaf
returns-in-Leaf c = sym (ap (λ e. tree_inside (tree_of e)) c.in-Leaf.is ∙ ap tree_inside (tree_of-leaf c.in-Leaf.field-0))

pub returns-in-Nest : goal.returns-in-Nest
returns-in-Nest c =
    ap (λ l. Some (forest_of l)) (c.deref-in-Nest.ensures.value ∙ ap (λ group. group.inner.items) c.deref.ensures)
    ∙ sym (ap (λ e. tree_inside (tree_of e)) c.in-Nest.is ∙ ap tree_inside (tree_of-nest c.in-Nest.group))
