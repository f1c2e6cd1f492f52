use Rattle.std.proofs.Common.{◌∙◌, ap, sym, arith, drop}
use Rattle.swift_lexer.specs.Trees.{forest_of}
use Rattle.decl_parser.specs.Levels.{are_silent}
use Rattle.decl_parser.proofs.Grouped.{blank_without}
use Rattle.decl_parser.proofs.levels.are_blank_around.Goals as goal

pub returns-then-are_silent : goal.returns-then-are_silent
returns-then-are_silent c = λ is.
    let text = c.args.text.now in
    let elements = c.args.elements.now in
    let place = c.args.place in
    blank_without text place elements (omega (arith, c.if-elements-place.false))
    (ap (λ es. are_silent text (forest_of es)) (sym c.upto.ensures) ∙ sym c.are_silent.ensures ∙ c.if-are_silent.true)
    (ap (λ es. are_silent text (forest_of es)) (sym (c.behind-then-are_silent.ensures ∙ ap (drop 1) c.behind.ensures)) ∙ sym c.are_silent-then-are_silent.ensures ∙ is)
