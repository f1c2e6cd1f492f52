use Rattle.std.proofs.Common.{◌≡◌, drop}
use Rattle.swift_lexer.specs.Trees.{forest_of}
use Rattle.decl_parser.specs.Levels.{are_silent}
use Rattle.decl_parser.proofs.quiet.are_silent.Given as goal

abbrev pub invariant-elements : goal.invariant-elements
invariant-elements l = are_silent l.text (forest_of (drop l.element-index l.elements)) ≡ are_silent l.text (forest_of l.elements)
