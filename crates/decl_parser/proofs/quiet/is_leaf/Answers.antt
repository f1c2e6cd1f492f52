use Rattle.std.proofs.Common.{◌∙◌, ap, sym}
use Rattle.swift_lexer.specs.Trees.{tree_of}
use Rattle.swift_lexer.proofs.Trees.{tree_of-leaf, tree_of-nest}
use Rattle.decl_parser.specs.Levels.{is_leaf}
use Rattle.decl_parser.proofs.quiet.is_leaf.Goals as goal

pub returns-in-Leaf : goal.returns-in-Leaf
returns-in-Leaf c = sym (ap (λ e. is_leaf (tree_of e)) c.in-Leaf.is ∙ ap is_leaf (tree_of-leaf c.in-Leaf.field-0))

pub returns-in-Nest : goal.returns-in-Nest
returns-in-Nest c = sym (ap (λ e. is_leaf (tree_of e)) c.in-Nest.is ∙ ap is_leaf (tree_of-nest c.in-Nest.field-0))
