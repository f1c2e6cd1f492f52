use Rattle.std.proofs.Common.{◌≡◌, length}
use Rattle.swift_lexer.specs.Trees.{forest_of}
use Rattle.sample_macros.specs.Use.{first_round}
use Rattle.sample_macros.proofs.argument.first_round.Given as goal

abbrev pub invariant-elements : goal.invariant-elements
invariant-elements l = first_round l.text (forest_of l.elements) ≡ first_round l.text (forest_of l.rest)

abbrev pub decreases-elements : goal.decreases-elements
decreases-elements l = length l.rest
