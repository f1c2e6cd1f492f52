use Rattle.std.proofs.Common.{◌∙◌, ap, sym}
use Rattle.swift_lexer.specs.Trees.{tree_of}
use Rattle.swift_lexer.proofs.Trees.{tree_of-leaf}
use Rattle.decl_parser.specs.Levels.{inside_of}
use Rattle.decl_parser.proofs.levels.inside_leaf.Goals as goal

pub returns-in-Leaf : goal.returns-in-Leaf
unfolding inside_of
returns-in-Leaf c =
    c.nothing_inside.ensures ∙ sym (ap (λ e. inside_of c.args.text.now (tree_of e)) c.in-Leaf.is ∙ ap (inside_of c.args.text.now) (tree_of-leaf c.in-Leaf.field-0))
