use Rattle.std.proofs.Common.{◌≡◌, drop}
use Rattle.swift_lexer.specs.Trees.{forest_of, forest_tokens}
use Rattle.decl_parser.specs.Outline.{unreserved}
use Rattle.decl_parser.proofs.parse.unreserved.Given as goal

abbrev pub invariant-elements : goal.invariant-elements
invariant-elements l = unreserved l.text (forest_tokens (forest_of (drop l.element-index l.elements))) ≡ unreserved l.text (forest_tokens (forest_of l.elements))
