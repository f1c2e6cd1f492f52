use Rattle.std.proofs.Common.{◌≡◌, length, Some}
use Rattle.swift_lexer.specs.Trees.{forest_of}
use Rattle.decl_parser.specs.Bindings.{bindings_from}
use Rattle.decl_parser.specs.Levels.{held}
use Rattle.decl_parser.specs.Parts.{prefixed}
use Rattle.decl_parser.proofs.bindings.bindings.Given as goal

abbrev pub invariant-bindings : goal.invariant-bindings
invariant-bindings l = prefixed l.bounds.items (bindings_from (Some l.before) 0 l.rest l.within (held l.text (forest_of l.left))) ≡ bindings_from (Some l.anchor) 0 l.marks l.insides (held l.text (forest_of l.elements))

abbrev pub decreases-bindings : goal.decreases-bindings
decreases-bindings l = length l.rest
