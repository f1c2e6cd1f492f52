use Rattle.std.proofs.Common.{◌∙◌, ◌++◌, drop, ap, sym}
use Rattle.swift_lexer.specs.Trees.{forest_of}
use Rattle.decl_parser.specs.Cut.{without}
use Rattle.decl_parser.specs.Levels.{insides}
use Rattle.decl_parser.proofs.Grouped.{without_is}
use Rattle.decl_parser.proofs.levels.insides_without.Goals as goal

pub returns : goal.returns
returns c =
    let text = c.args.text.now in
    let elements = c.args.elements.now in
    c.in_ok-append.ensures.items
    ∙ ap (λ l. l ++ c.in_ok-others.others.items) c.in_ok-add.ensures
    ∙ without_is text c.in-Some.place elements c.in_ok-list.list.items c.in_ok-others.others.items c.nothing_inside.result
    (c.in_ok-list.ensures ∙ ap (λ es. insides text (forest_of es)) c.upto.ensures) c.nothing_inside.ensures
    (c.in_ok-others.ensures ∙ ap (λ es. insides text (forest_of es)) (c.behind-2.ensures ∙ ap (drop 1) c.behind.ensures))
    ∙ sym (ap (λ p. without p (insides text (forest_of elements))) c.in-Some.is)
