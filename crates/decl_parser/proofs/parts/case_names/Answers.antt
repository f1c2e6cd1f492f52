use Rattle.std.proofs.Common.{◌∙◌, ◌∷◌, ap, sym, Some}
use Rattle.std.proofs.lemmas.Result.{err_from_is_err_and}
use Rattle.decl_parser.specs.Parts.{case_names, prefixed}
use Rattle.decl_parser.proofs.Prefixes.{refused_on}
use Rattle.decl_parser.proofs.parts.case_names.Goals as goal

pub returns-in_err-wanted : goal.returns-in_err-wanted
returns-in_err-wanted c =
    let p = err_from_is_err_and c.from_residual.result c.from_residual.ensures.1 in
    rw (p.1, p.2) (refused_on c.in_err-wanted.field-0.0 (case_names c.elements.wanted (c.in-Some.mark.now ∷ c.in-Some.others.now)) (case_names (Some c.args.anchor) c.args.marks.now)
    (λ fault read. ap (prefixed c.elements.names.items) (read ∙ ap (case_names c.elements.wanted) (sym c.in-Some.ensures.cases.0)) ∙ c.elements.invariant)
    (c.in_err-wanted.ensures c.in-Some.others.now))
