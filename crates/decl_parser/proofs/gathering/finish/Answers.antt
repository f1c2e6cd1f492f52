use Rattle.std.proofs.Common.{◌≡◌, ◌∙◌, ap, sym, subst, append-nil, false, IfOk}
use Rattle.swift_lexer.specs.Trees.{forest_of, none}
use Rattle.element_marks.specs.Accessors.{lists_accessors, observes_from}
use Rattle.element_marks.specs.Levels.{level}
use Rattle.element_marks.proofs.Quieter.{quiet_accessors}
use Rattle.decl_parser.specs.Found.{all_within, found_in}
use Rattle.decl_parser.specs.Gathering.{IsGathered}
use Rattle.decl_parser.specs.Levels.{insides, read_inside}
use Rattle.decl_parser.proofs.QuietGroups.{quiet_found}
use Rattle.decl_parser.proofs.gathering.finish.Goals as goal

pub returns-in-Quiet : goal.returns-in-Quiet
unfolding read_inside insides
returns-in-Quiet c =
    let text = c.args.text.now in
    let forest = forest_of c.args.elements.now in
    let told = subst (λ read. IsGathered text read none forest) c.in-Quiet.is c.requires in
    let all = insides text forest in
    let marks = level text forest in
    let accessors = quiet_accessors text forest told.quiet told.no_accessor in
    let found : all_within all ≡ found_in marks all = quiet_found text forest told.quiet in
    ap (λ b. record { observes = b; lists_accessors = false; uses = c.from_vec.result; locals = c.from_vec-in-Quiet.result }) accessors.0
    ∙ ap (λ b. record { observes = observes_from 0 marks; lists_accessors = b; uses = c.from_vec.result; locals = c.from_vec-in-Quiet.result }) accessors.1
    ∙ ap (λ uses. record { observes = observes_from 0 marks; lists_accessors = lists_accessors marks; uses = uses; locals = c.from_vec-in-Quiet.result })
    (c.from_vec.ensures ∙ sym (append-nil c.in-Quiet.told.uses.items) ∙ told.uses ∙ ap (λ f. f.uses) found)
    ∙ ap (λ locals. record { observes = observes_from 0 marks; lists_accessors = lists_accessors marks; uses = (found_in marks all).uses; locals = locals })
    (c.from_vec-in-Quiet.ensures ∙ sym (append-nil c.in-Quiet.told.locals.items) ∙ told.locals ∙ ap (λ f. f.locals) found)

pub returns-in_ok-marks-in-Each : goal.returns-in_ok-marks-in-Each
unfolding insides
returns-in_ok-marks-in-Each c =
    let text = c.args.text.now in
    let forest = forest_of c.args.elements.now in
    let kept = subst (λ read. IsGathered text read none forest) c.in-Each.is c.requires in
    let whole : read_inside c.deref.result.now c.deref-in-Each.result.now ≡ read_inside (level text forest) (insides text forest) =
    ap (λ marks. read_inside marks c.deref-in-Each.result.now) (c.deref.ensures.value ∙ c.in_ok-marks-in-Each.ensures)
    ∙ ap (read_inside (level text forest)) (c.deref-in-Each.ensures.value ∙ sym (append-nil c.in-Each.list.items) ∙ kept) in
    subst (λ x. IfOk c.read_inside.result (λ inside. inside ≡ x)) whole c.read_inside.ensures
