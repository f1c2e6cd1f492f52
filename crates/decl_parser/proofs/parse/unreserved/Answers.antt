use Rattle.std.proofs.Common.{◌∙◌, ◌+◌, ap, sym, drop}
use Rattle.std.proofs.lemmas.Result.{err_from_is_err_and}
use Rattle.swift_lexer.specs.Trees.{forest_of, forest_tokens, tree_of, tree_tokens}
use Rattle.swift_lexer.proofs.Trees.{forest_of-drop}
use Rattle.decl_parser.specs.Outline.{unreserved}
use Rattle.decl_parser.proofs.Prefixes.{refused_on}
use Rattle.decl_parser.proofs.Unreserved.{front_passes, front_stops}
use Rattle.decl_parser.proofs.parse.unreserved.Goals as goal

pub returns-in_err-unreserved_in : goal.returns-in_err-unreserved_in
returns-in_err-unreserved_in c =
    let text = c.args.text.now in
    let elements = c.args.elements.now in
    let front = tree_tokens (tree_of c.element-item.result) in
    let back = forest_tokens (forest_of (drop (c.elements.element-index + 1) elements)) in
    let first = forest_of-drop elements c.elements.element-index c.element-item.result c.elements-test.true c.element-item.is in
    let p = err_from_is_err_and c.from_residual.result c.from_residual.ensures.1 in
    rw (p.1, p.2) (refused_on c.in_err-unreserved_in.field-0.0 (unreserved text front) (unreserved text (forest_tokens (forest_of elements)))
    (λ found is. front_stops text front back found is ∙ sym (ap (λ f. unreserved text (forest_tokens f)) first) ∙ c.elements.invariant)
    c.in_err-unreserved_in.ensures)

pub elements-preserved : goal.elements-preserved
elements-preserved c =
    let text = c.args.text.now in
    let elements = c.args.elements.now in
    let front = tree_tokens (tree_of c.element-item.result) in
    let back = forest_tokens (forest_of (drop (c.elements.element-index + 1) elements)) in
    let first = forest_of-drop elements c.elements.element-index c.element-item.result c.elements-test.true c.element-item.is in
    sym (front_passes text front back c.in_ok-unreserved_in.ensures) ∙ sym (ap (λ f. unreserved text (forest_tokens f)) first) ∙ c.elements.invariant
