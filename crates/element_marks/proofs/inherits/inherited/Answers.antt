use Rattle.std.proofs.Common.{◌≡◌, ◌∙◌, IfOk, ap, drop, subst, sym, take, true}
use Rattle.element_marks.specs.declared.inherits.Stop.TheVariants as stop
use Rattle.element_marks.specs.Sorts.{is_colon}
use Rattle.element_marks.specs.Heads.{first_is}
use Rattle.element_marks.specs.Inherits.{clause, inherited, length_before, pieces}
use Rattle.element_marks.proofs.Walks.{clause_behind}
use Rattle.element_marks.proofs.inherits.inherited.Goals as goal

pub returns : goal.returns
returns c =
    let colon : first_is is_colon (drop c.length_before-colon.result c.args.marks.now) ≡ true = sym (c.if-not-first_colon.ensures ∙ ap (first_is is_colon) c.behind.ensures) in
    let same : pieces 0 (take c.length_before.result c.behind-clause.result.now) ≡ inherited c.args.marks.now =
    ap (λ n. pieces 0 (take n c.behind-clause.result.now)) c.length_before.ensures.value
    ∙ ap (λ l. pieces 0 (take (length_before stop.Where 0 0 l) l)) c.behind-clause.ensures
    ∙ clause_behind c.length_before-colon.result c.args.marks.now colon
    ∙ ap (λ n. clause (drop n c.args.marks.now)) c.length_before-colon.ensures.value
    in
    subst (λ p. IfOk c.pieces.result (λ types. types.items ≡ p)) same c.pieces.ensures
