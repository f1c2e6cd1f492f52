use Rattle.std.proofs.Common.{◌≡◌, ◌++◌, drop}
use Rattle.swift_lexer.specs.Trees.{forest_of}
use Rattle.decl_parser.specs.Levels.{insides}
use Rattle.decl_parser.proofs.levels.insides.Given as goal

abbrev pub invariant-elements : goal.invariant-elements
invariant-elements l = l.list.items ++ insides l.text (forest_of (drop l.element-index l.elements)) ≡ insides l.text (forest_of l.elements)
