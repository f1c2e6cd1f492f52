use Rattle.std.proofs.Common.{◌≡◌, length}
use Rattle.swift_lexer.specs.Trees.{forest_of}
use Rattle.sample_macros.specs.Use.{end_of_last}
use Rattle.sample_macros.proofs.argument.end_of_last.Given as goal

abbrev pub invariant-elements : goal.invariant-elements
invariant-elements l = end_of_last l.end (forest_of l.elements) ≡ end_of_last l.last (forest_of l.rest)

abbrev pub decreases-elements : goal.decreases-elements
decreases-elements l = length l.rest
