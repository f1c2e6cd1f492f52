use Rattle.std.proofs.Common.{◌≡◌, ◌∙◌, ◌+◌, ap, sym, subst, append_assoc, drop, Ok, ◌∷◌, ◌++◌, []}
use Rattle.std.proofs.lemmas.Result.{err_from_is_err_and}
use Rattle.swift_lexer.specs.Trees.{forest_of, forest_tokens, tree_of, tree_tokens}
use Rattle.swift_lexer.proofs.Trees.{forest_of-drop, tree_of-leaf, tree_of-nest}
use Rattle.element_marks.specs.Answers.{Answers, Refuses}
use Rattle.decl_parser.specs.Outline.{unreserved}
use Rattle.decl_parser.proofs.Prefixes.{refused_on}
use Rattle.decl_parser.proofs.Unreserved.{front_passes, front_stops}
use Rattle.decl_parser.proofs.parse.+unreserved_in.Goals as goal

pub returns-in_err-unreserved_token-in-Nest : goal.returns-in_err-unreserved_token-in-Nest
returns-in_err-unreserved_token-in-Nest t c =
    let text = c.args.text.now in
    let group = c.in-Nest.group.value in
    let tokens : tree_tokens (tree_of c.args.element.now) ≡ group.left ∷ (forest_tokens (forest_of group.inner.items) ++ group.right ∷ []) = ap (λ e. tree_tokens (tree_of e)) c.in-Nest.is ∙ ap tree_tokens (tree_of-nest c.in-Nest.group) in
    let p = err_from_is_err_and c.from_residual.result c.from_residual.ensures.1 in
    rw (p.1, p.2) (refused_on c.in_err-unreserved_token-in-Nest.field-0.0 (unreserved text (group.left ∷ [])) (unreserved text (tree_tokens (tree_of c.args.element.now)))
    (λ found is. front_stops text (group.left ∷ []) (forest_tokens (forest_of group.inner.items) ++ group.right ∷ []) found is ∙ sym (ap (unreserved text) tokens))
    (subst (λ g. Refuses c.in_err-unreserved_token-in-Nest.field-0.0 (λ outcome. outcome ≡ unreserved text (g.left ∷ []))) c.deref.ensures c.in_err-unreserved_token-in-Nest.ensures))

pub inner-init : goal.inner-init
inner-init t c =
    let text = c.args.text.now in
    let group = c.in-Nest.group.value in
    let tokens : tree_tokens (tree_of c.args.element.now) ≡ group.left ∷ (forest_tokens (forest_of group.inner.items) ++ group.right ∷ []) = ap (λ e. tree_tokens (tree_of e)) c.in-Nest.is ∙ ap tree_tokens (tree_of-nest c.in-Nest.group) in
    let fine : Ok tt ≡ unreserved text (group.left ∷ []) = c.in_ok-unreserved_token-in-Nest.ensures ∙ ap (λ g. unreserved text (g.left ∷ [])) c.deref.ensures in
    ap (λ es. unreserved text (forest_tokens (forest_of es) ++ group.right ∷ [])) (c.as_slice-inner.ensures.value ∙ ap (λ g. g.inner.items) c.deref-in-Nest.ensures)
    ∙ sym (front_passes text (group.left ∷ []) (forest_tokens (forest_of group.inner.items) ++ group.right ∷ []) fine)
    ∙ sym (ap (unreserved text) tokens)

pub inner-preserved : goal.inner-preserved
inner-preserved t c =
    let text = c.args.text.now in
    let inner = c.as_slice-inner.result.now in
    let last = c.in-Nest.group.value.right ∷ [] in
    let front = tree_tokens (tree_of c.part-item.result) in
    let back = forest_tokens (forest_of (drop (c.inner.part-index + 1) inner)) in
    let first = forest_of-drop inner c.inner.part-index c.part-item.result c.inner-test.true c.part-item.is in
    sym (front_passes text front (back ++ last) c.in_ok-unreserved_in-in-Nest.ensures)
    ∙ sym (ap (unreserved text) (ap (λ f. forest_tokens f ++ last) first ∙ append_assoc front back last)) ∙ c.inner.invariant

pub returns-in_err-unreserved_in-in-Nest : goal.returns-in_err-unreserved_in-in-Nest
returns-in_err-unreserved_in-in-Nest t c =
    let text = c.args.text.now in
    let inner = c.as_slice-inner.result.now in
    let last = c.in-Nest.group.value.right ∷ [] in
    let front = tree_tokens (tree_of c.part-item.result) in
    let back = forest_tokens (forest_of (drop (c.inner.part-index + 1) inner)) in
    let first = forest_of-drop inner c.inner.part-index c.part-item.result c.inner-test.true c.part-item.is in
    let p = err_from_is_err_and c.from_residual-in_err-unreserved_in-in-Nest.result c.from_residual-in_err-unreserved_in-in-Nest.ensures.1 in
    rw (p.1, p.2) (refused_on c.in_err-unreserved_in-in-Nest.field-0.0 (unreserved text front) (unreserved text (tree_tokens (tree_of c.args.element.now)))
    (λ found is. front_stops text front (back ++ last) found is ∙ sym (ap (unreserved text) (ap (λ f. forest_tokens f ++ last) first ∙ append_assoc front back last)) ∙ c.inner.invariant)
    c.in_err-unreserved_in-in-Nest.ensures)

pub returns-in-Leaf : goal.returns-in-Leaf
returns-in-Leaf t c =
    let text = c.args.text.now in
    let whole : unreserved text (tree_tokens (tree_of c.args.element.now)) ≡ unreserved text (c.in-Leaf.token ∷ []) = ap (λ e. unreserved text (tree_tokens (tree_of e))) c.in-Leaf.is ∙ ap (λ t. unreserved text (tree_tokens t)) (tree_of-leaf c.in-Leaf.token) in
    subst (λ x. Answers (λ fine. fine) c.unreserved_token.result (λ outcome. outcome ≡ x)) (sym whole) c.unreserved_token.ensures
