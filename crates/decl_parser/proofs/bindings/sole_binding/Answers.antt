use Rattle.std.proofs.Common.{◌∙◌, ◌+◌, ap, sym, length, false, [], Some}
use Rattle.std.proofs.lemmas.Bool.{eqb-true}
use Rattle.std.proofs.lemmas.Result.{err_from_is_err_and}
use Rattle.swift_lexer.specs.Trees.{forest_of}
use Rattle.element_marks.specs.Runs.{binding_length}
use Rattle.decl_parser.specs.Bindings.{binding_of, bindings_from}
use Rattle.decl_parser.specs.Levels.{held}
use Rattle.decl_parser.proofs.BindingWalks.{bad_binding, last_binding, some_left}
use Rattle.decl_parser.proofs.Prefixes.{prefixed_nothing, refused_on}
use Rattle.decl_parser.proofs.bindings.sole_binding.Goals as goal

pub returns-in_err-bound : goal.returns-in_err-bound
returns-in_err-bound c =
    let inner = held c.args.text.now (forest_of c.args.elements.now) in
    let whole = bindings_from (Some c.args.anchor) 0 c.args.marks.now c.args.insides.now inner in
    let p = err_from_is_err_and c.from_residual.result c.from_residual.ensures.1 in
    rw (p.1, p.2) (refused_on c.in_err-bound.field-0.0 (binding_of c.upto.result.now c.args.insides.now inner) whole
    (λ fault read.
    bad_binding [] c.args.anchor (1 + c.binding_length-count.result) c.args.marks.now c.args.insides.now inner fault
    (some_left (length c.args.marks.now) (sym c.if-is_empty.ensures))
    (ap (λ n. 1 + n) (c.binding_length-count.ensures.value ∙ ap (binding_length false 0 0) c.behind.ensures))
    (read ∙ ap (λ l. binding_of l c.args.insides.now inner) c.upto.ensures)
    ∙ prefixed_nothing whole)
    c.in_err-bound.ensures)

pub returns : goal.returns
returns c =
    let inner = held c.args.text.now (forest_of c.args.elements.now) in
    let whole = bindings_from (Some c.args.anchor) 0 c.args.marks.now c.args.insides.now inner in
    last_binding [] c.args.anchor (1 + c.binding_length-count.result) c.args.marks.now c.args.insides.now inner c.in_ok-bound.bound
    (some_left (length c.args.marks.now) (sym c.if-is_empty.ensures))
    (ap (λ n. 1 + n) (c.binding_length-count.ensures.value ∙ ap (binding_length false 0 0) c.behind.ensures))
    (c.in_ok-bound.ensures ∙ ap (λ l. binding_of l c.args.insides.now inner) c.upto.ensures)
    (sym (ap length c.behind-2.ensures) ∙ eqb-true (length c.behind-2.result.now) 0 (sym c.if-not-is_empty.ensures))
    ∙ prefixed_nothing whole
