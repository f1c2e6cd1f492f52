use Rattle.std.proofs.Common.{◌∙◌, ap, arith, length}
use Rattle.swift_lexer.specs.Trees.{forest_of}
use Rattle.element_marks.specs.Levels.{own_marks}
use Rattle.element_marks.proofs.AnglePart.{length_joins, length_own}
use Rattle.element_marks.proofs.level.marks_behind.Goals as goal

pub set_neighbours-requires-clause-short : goal.set_neighbours-requires-clause-short
set_neighbours-requires-clause-short c = omega (arith, ap length (c.deref_mut-2.ensures.value ∙ c.in_ok-joined.ensures.marks), length_joins c.args.previous (own_marks c.args.text.now (forest_of c.args.elements.now)), length_own c.args.text.now c.args.elements.now, c.if-elements.false)
