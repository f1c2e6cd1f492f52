use Rattle.std.proofs.Common.{◌≡◌, drop}
use Rattle.swift_lexer.specs.Trees.{forest_of}
use Rattle.element_marks.specs.Quiet.{is_quiet}
use Rattle.element_marks.proofs.quiet.is_quiet.Given as goal

abbrev pub invariant-elements : goal.invariant-elements
invariant-elements l = is_quiet (forest_of (drop l.element-index l.elements)) ≡ is_quiet (forest_of l.elements)
