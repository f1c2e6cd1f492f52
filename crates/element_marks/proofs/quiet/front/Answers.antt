use Rattle.std.proofs.Common.{◌∙◌, ap, sym}
use Rattle.swift_lexer.specs.Trees.{tree_of}
use Rattle.swift_lexer.proofs.Trees.{tree_of-leaf, tree_of-nest}
use Rattle.element_marks.specs.Quiet.{front}
use Rattle.element_marks.proofs.quiet.front.Goals as goal

pub returns-in-Leaf : goal.returns-in-Leaf
returns-in-Leaf c = sym (ap (λ e. front (tree_of e)) c.in-Leaf.is ∙ ap front (tree_of-leaf c.in-Leaf.token))

pub returns-in-Nest : goal.returns-in-Nest
returns-in-Nest c = ap (λ group. group.left) c.deref.ensures ∙ sym (ap (λ e. front (tree_of e)) c.in-Nest.is ∙ ap front (tree_of-nest c.in-Nest.group))
