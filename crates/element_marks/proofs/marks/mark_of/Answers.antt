use Rattle.std.proofs.Common.{◌∙◌, ap, sym}
use Rattle.swift_lexer.specs.Trees.{tree_of}
use Rattle.swift_lexer.proofs.Trees.{tree_of-leaf, tree_of-nest}
use Rattle.element_marks.specs.Marks.{mark_between, mark_of}
use Rattle.element_marks.proofs.marks.mark_of.Goals as goal

pub returns-in-Leaf : goal.returns-in-Leaf
returns-in-Leaf c = c.mark_between.ensures ∙ sym (ap (λ e. mark_of c.args.text.now (tree_of e)) c.in-Leaf.is ∙ ap (mark_of c.args.text.now) (tree_of-leaf c.in-Leaf.token))

pub returns-in-Nest : goal.returns-in-Nest
returns-in-Nest c =
    c.mark_between-in-Nest.ensures ∙ ap (λ group. mark_between c.args.text.now group.left c.deref-in-Nest.result.now.right.end) c.deref.ensures ∙ ap (λ group. mark_between c.args.text.now c.in-Nest.group.value.left group.right.end) c.deref-in-Nest.ensures
    ∙ sym (ap (λ e. mark_of c.args.text.now (tree_of e)) c.in-Nest.is ∙ ap (mark_of c.args.text.now) (tree_of-nest c.in-Nest.group))
