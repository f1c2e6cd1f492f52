use Rattle.std.proofs.Common.{◌∙◌, ap, sym}
use Rattle.swift_lexer.specs.Trees.{tree_of}
use Rattle.swift_lexer.proofs.Trees.{tree_of-leaf, tree_of-nest}
use Rattle.element_marks.specs.Marks.{mark_between, mark_of}
use Rattle.element_marks.proofs.quiet.end_at.Goals as goal

pub returns-in-Leaf : goal.returns-in-Leaf
unfolding mark_between
returns-in-Leaf c = λ text. sym (ap (λ e. (mark_of text (tree_of e)).end) c.in-Leaf.is ∙ ap (λ t. (mark_of text t).end) (tree_of-leaf c.in-Leaf.token))

pub returns-in-Nest : goal.returns-in-Nest
unfolding mark_between
returns-in-Nest c = λ text. ap (λ group. group.right.end) c.deref.ensures ∙ sym (ap (λ e. (mark_of text (tree_of e)).end) c.in-Nest.is ∙ ap (λ t. (mark_of text t).end) (tree_of-nest c.in-Nest.group))
