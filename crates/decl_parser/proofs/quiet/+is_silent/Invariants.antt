use Rattle.std.proofs.Common.{◌≡◌, drop}
use Rattle.swift_lexer.specs.Trees.{forest_of, tree_of}
use Rattle.decl_parser.specs.Levels.{are_silent, is_silent}
use Rattle.decl_parser.proofs.quiet.+is_silent.Given as goal

abbrev pub invariant-inner : goal.invariant-inner
invariant-inner l = are_silent l.text (forest_of (drop l.part-index l.inner)) ≡ is_silent l.text (tree_of l.element)
