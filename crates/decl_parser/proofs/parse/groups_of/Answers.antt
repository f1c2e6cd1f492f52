use Rattle.std.proofs.Common.{◌≡◌, ◌∙◌, ap, sym, subst, Ok, Err}
use Rattle.swift_lexer.specs.Trees.{forest_of}
use Rattle.swift_lexer.specs.Answers as lexer
use Rattle.swift_lexer.specs.Groups.{IsGrouped}
use Rattle.element_marks.specs.Answers.{Refuses}
use Rattle.decl_parser.specs.Outline.{read_groups}
use Rattle.decl_parser.proofs.Readings.{groups_read}
use Rattle.decl_parser.proofs.parse.groups_of.Goals as goal

pub returns-in-Ok : goal.returns-in-Ok
returns-in-Ok c = groups_read c.args.text.now c.args.tokens.now (Ok (forest_of c.in-Ok.elements.items)) c.in-Ok.ensures

pub returns-in-Err-Fault : goal.returns-in-Err-Fault
returns-in-Err-Fault c =
    subst (λ r. Refuses r (λ outcome. outcome ≡ read_groups c.args.text.now c.args.tokens.now)) (sym c.fault.ensures)
    (ap (λ k. Err (record { at = c.in-Err-Fault.field-0-0.at; kind = k })) c.of_grouping.ensures
    ∙ groups_read c.args.text.now c.args.tokens.now (Err c.in-Err-Fault.field-0-0) (subst (λ r. lexer.Refuses r (IsGrouped c.args.text.now c.args.tokens.now)) c.in-Err-Fault.field-0-is (subst (λ r. lexer.Answers (λ tokens. forest_of tokens.items) r (IsGrouped c.args.text.now c.args.tokens.now)) c.in-Err-Fault.is c.group.ensures)))
