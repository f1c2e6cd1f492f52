use Rattle.std.proofs.Common.{◌≡◌, ◌∙◌, ap, drop, subst}
use Rattle.swift_lexer.specs.Trees.{forest_of}
use Rattle.element_marks.specs.Answers.{Answers}
use Rattle.decl_parser.specs.Levels.{held}
use Rattle.decl_parser.specs.Parts.{parts}
use Rattle.decl_parser.proofs.Grouped.{held_drop}
use Rattle.decl_parser.proofs.items.own_parts.Goals as goal

pub returns : goal.returns
returns c =
    let text = c.args.own.text.now in
    let starter = c.args.starter.now in
    let kind = c.args.kind in
    let head = c.args.head in
    let marks : c.behind-marks.result.now ≡ drop head (drop c.args.own.from c.args.own.list.now) = c.behind-marks.ensures ∙ ap (drop head) c.behind.ensures in
    let left : held text (forest_of c.behind-elements.result.now) ≡ drop head (held text (forest_of c.args.own.elements.now)) =
    ap (λ es. held text (forest_of es)) c.behind-elements.ensures ∙ held_drop text head c.args.own.elements.now in
    subst (λ x. Answers (λ parts. parts) c.parts_of.result (λ outcome. outcome ≡ x))
    ((λ i. parts kind starter (marks i) (c.behind-insides.ensures i) (left i)))
    c.parts_of.ensures
