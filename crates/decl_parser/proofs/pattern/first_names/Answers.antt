use Rattle.std.proofs.Common.{◌∙◌, ap, ◌++◌}
use Rattle.swift_lexer.specs.Trees.{tree_of}
use Rattle.decl_parser.specs.Bindings.{names_inside}
use Rattle.decl_parser.proofs.Grouped.{first_names_are, no_first_names}
use Rattle.decl_parser.proofs.pattern.first_names.Goals as goal

pub returns-in_default : goal.returns-in_default
returns-in_default c = c.new-names.ensures.items ∙ no_first_names c.args.text.now c.args.elements.now c.in_default.ensures.value

pub returns : goal.returns
returns c =
    let text = c.args.text.now in
    let element = c.in-Some.element.now in
    c.in_ok-add_names_inside.ensures
    ∙ ap (λ l. l ++ names_inside text (tree_of element)) c.new-names.ensures.items
    ∙ first_names_are text c.args.elements.now element c.in-Some.ensures.value
