use Rattle.std.proofs.Common.{◌≡◌, ◌∷◌, ◌++◌, [], drop}
use Rattle.swift_lexer.specs.Trees.{forest_of, forest_tokens, tree_of, tree_tokens}
use Rattle.decl_parser.specs.Outline.{unreserved}
use Rattle.decl_parser.proofs.parse.+unreserved_in.Given as goal

abbrev pub invariant-inner : goal.invariant-inner
invariant-inner l = unreserved l.text (forest_tokens (forest_of (drop l.part-index l.inner)) ++ l.group.value.right ∷ []) ≡ unreserved l.text (tree_tokens (tree_of l.element))
