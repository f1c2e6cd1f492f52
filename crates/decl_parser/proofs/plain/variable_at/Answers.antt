use Rattle.std.proofs.Common.{◌≡◌, ◌∙◌, ◌∷◌, ◌+◌, ap, subst, sym, arith, length, refl, take, Some, false}
use Rattle.swift_lexer.specs.Trees.{forest_of, tree_of}
use Rattle.element_marks.specs.Fronts.{list_behind}
use Rattle.element_marks.specs.Levels.{own_marks}
use Rattle.element_marks.specs.Marks.{mark_of}
use Rattle.element_marks.specs.Sorts.{is_equals}
use Rattle.decl_parser.specs.Levels.{are_silent}
use Rattle.decl_parser.specs.Plain.{BeginsVariable, is_plain_name, plain_item, run_from}
use Rattle.decl_parser.proofs.PlainVariables.{variable_read}
use Rattle.decl_parser.proofs.plain.variable_at.Goals as goal

pub returns-clause-read : goal.returns-clause-read
returns-clause-read c = λ place list at here.
    let text = c.args.text.now in
    let first = c.in_ok-first.first.now in
    let second = c.in_ok-second.second.now in
    let third = c.in_ok-third.third.now in
    let fourth = c.in_ok-fourth.fourth.now in
    let init = c.in_ok-fourth.field-0-1.now in
    let run = c.in_ok-run.run' in
    let others : c.in_ok-first.others.now ≡ second ∷ third ∷ fourth ∷ init =
    c.in_ok-second.ensures.cases.0 ∙ ap (λ l. second ∷ l) (c.in_ok-third.ensures.cases.0 ∙ ap (λ l. third ∷ l) c.in_ok-fourth.ensures.cases.0) in
    let all : c.args.elements.now ≡ first ∷ second ∷ third ∷ fourth ∷ init = c.in_ok-first.ensures.cases.0 ∙ ap (λ l. first ∷ l) others in
    let starter : c.mark_of-starter.result ≡ mark_of text (tree_of first) = c.mark_of-starter.ensures in
    let name : c.mark_of-name.result ≡ mark_of text (tree_of second) = c.mark_of-name.ensures in
    let equals : c.mark_of-equals.result ≡ mark_of text (tree_of third) = c.mark_of-equals.ensures in
    let value : c.mark_of-value.result ≡ mark_of text (tree_of fourth) = c.mark_of-value.ensures in
    variable_read place text list at first second third fourth init c.in_ok-kind.kind run _ (here ∙ all)
    (subst (λ m. BeginsVariable m c.in_ok-kind.kind) starter c.in_ok-kind.ensures)
    (ap is_plain_name (sym name) ∙ sym c.is_plain_name.ensures ∙ c.if-not-is_plain_name.false)
    (ap is_equals (sym equals) ∙ sym c.is_equals.ensures ∙ c.if-not-is_equals.false)
    (c.in_ok-run.ensures.run ∙ (λ i. run_from 0 (starter i).end false (list_behind (Some (starter i)) (own_marks text (forest_of (others i))))))
    (omega (arith, c.if-run-lt3.false))
    c.if-run.false
    (ap (λ es. are_silent text (forest_of es)) (sym (c.upto.ensures ∙ ap (take (run.count + 1)) all)) ∙ sym c.are_silent.ensures ∙ c.if-not-are_silent.false)
    refl
    (c.plain_item.ensures ∙ (λ i. plain_item c.in_ok-kind.kind (starter i).start (name i) (equals i).start (value i).start run))

pub returns-clause-bound : goal.returns-clause-bound
returns-clause-bound c = omega (arith, c.in_ok-run.ensures.bound, ap length c.in_ok-first.ensures.cases.0)
