use Rattle.std.proofs.Common.{◌≡◌, ◌∙◌, ◌+◌, ◌∷◌, ◌++◌, [], ap, sym, drop, length, false, Some, Ok}
use Rattle.std.proofs.lemmas.Result.{err_from_is_err_and}
use Rattle.swift_lexer.specs.Trees.{forest_of}
use Rattle.element_marks.specs.Runs.{binding_length}
use Rattle.decl_parser.specs.Bindings.{binding_of, bindings_from}
use Rattle.decl_parser.specs.Levels.{held}
use Rattle.decl_parser.specs.Parts.{prefixed}
use Rattle.decl_parser.proofs.Grouped.{held_drop}
use Rattle.decl_parser.proofs.BindingWalks.{bad_binding, last_binding, next_binding, some_left}
use Rattle.decl_parser.proofs.Prefixes.{refused_on}
use Rattle.decl_parser.proofs.bindings.bindings.Goals as goal

pub returns-in_err-bound : goal.returns-in_err-bound
returns-in_err-bound c =
    let p = err_from_is_err_and c.from_residual-in_err-bound.result c.from_residual-in_err-bound.ensures.1 in
    rw (p.1, p.2) (refused_on c.in_err-bound.field-0.0 (binding_of c.upto.result.now c.bindings.within.now (held c.args.text.now (forest_of c.bindings.left.now))) (bindings_from (Some c.args.anchor) 0 c.args.marks.now c.args.insides.now (held c.args.text.now (forest_of c.args.elements.now)))
    (λ fault read.
    bad_binding c.bindings.bounds.items c.bindings.before (1 + c.binding_length-count.result) c.bindings.rest.now c.bindings.within.now (held c.args.text.now (forest_of c.bindings.left.now)) fault
    (some_left (length c.bindings.rest.now) (sym c.if-is_empty.ensures))
    (ap (λ n. 1 + n) (c.binding_length-count.ensures.value ∙ ap (binding_length false 0 0) c.behind.ensures))
    (read ∙ ap (λ l. binding_of l c.bindings.within.now (held c.args.text.now (forest_of c.bindings.left.now))) c.upto.ensures)
    ∙ c.bindings.invariant)
    c.in_err-bound.ensures)

pub returns-in_default : goal.returns-in_default
returns-in_default c =
    ap Ok c.in_ok-add.ensures
    ∙ last_binding c.bindings.bounds.items c.bindings.before (1 + c.binding_length-count.result) c.bindings.rest.now c.bindings.within.now (held c.args.text.now (forest_of c.bindings.left.now)) c.in_ok-bound.bound
    (some_left (length c.bindings.rest.now) (sym c.if-is_empty.ensures))
    (ap (λ n. 1 + n) (c.binding_length-count.ensures.value ∙ ap (binding_length false 0 0) c.behind.ensures))
    (c.in_ok-bound.ensures ∙ ap (λ l. binding_of l c.bindings.within.now (held c.args.text.now (forest_of c.bindings.left.now))) c.upto.ensures)
    (sym (ap length c.behind-in-bindings.ensures) ∙ c.in_default.ensures.cases)
    ∙ c.bindings.invariant

pub bindings-preserved : goal.bindings-preserved
bindings-preserved c =
    let text = c.args.text.now in
    let count = 1 + c.binding_length-count.result in
    let bounds = c.bindings.bounds.items ++ c.in_ok-bound.bound ∷ [] in
    let comma = c.in-Some.comma.now in
    let others = c.in-Some.others.now in
    let before = held text (forest_of c.bindings.left.now) in
    let within : c.behind-within.result.now ≡ drop 1 (drop count c.bindings.within.now) = c.behind-within.ensures ∙ ap (drop 1) c.behind-in-bindings-2.ensures in
    let left : held text (forest_of c.behind-left.result.now) ≡ drop 1 (drop count before) =
    ap (λ es. held text (forest_of es)) (c.behind-left.ensures ∙ ap (drop 1) c.behind-in-bindings-3.ensures)
    ∙ held_drop text 1 (drop count c.bindings.left.now) ∙ ap (drop 1) (held_drop text count c.bindings.left.now) in
    ap (λ l. prefixed l (bindings_from (Some comma.start) 0 others c.behind-within.result.now (held text (forest_of c.behind-left.result.now)))) c.in_ok-add.ensures
    ∙ ap (λ l. prefixed bounds (bindings_from (Some comma.start) 0 others l (held text (forest_of c.behind-left.result.now)))) within
    ∙ ap (λ l. prefixed bounds (bindings_from (Some comma.start) 0 others (drop 1 (drop count c.bindings.within.now)) l)) left
    ∙ next_binding c.bindings.bounds.items c.bindings.before count c.bindings.rest.now c.bindings.within.now before c.in_ok-bound.bound comma others
    (some_left (length c.bindings.rest.now) (sym c.if-is_empty.ensures))
    (ap (λ n. 1 + n) (c.binding_length-count.ensures.value ∙ ap (binding_length false 0 0) c.behind.ensures))
    (c.in_ok-bound.ensures ∙ ap (λ l. binding_of l c.bindings.within.now before) c.upto.ensures)
    (sym c.behind-in-bindings.ensures ∙ c.in-Some.ensures.cases.0)
    ∙ c.bindings.invariant
