use Rattle.std.proofs.Common.{◌≡◌, ◌∙◌, ap, sym, arith, Some, option_map}
use Rattle.swift_lexer.specs.Trees.{tree_of, forest_of}
use Rattle.decl_parser.specs.Cut.{members_at}
use Rattle.decl_parser.specs.Levels.{held, held_of, members_by, tree_inside, tree_size}
use Rattle.decl_parser.proofs.Grouped.{members_absent, members_present, members_inside, inside_smaller, element_smaller}
use Rattle.decl_parser.proofs.items.members_in.Goals as goal

pub returns-in_err-get-clause-members : goal.returns-in_err-get-clause-members
returns-in_err-get-clause-members c text =
    ap (λ r. members_by text (option_map (λ inner. forest_of inner.now) r)) c.from_residual-in_err-get.ensures
    ∙ sym (ap (λ p. members_at p (held text (forest_of c.args.elements.now))) c.in_ok-place.was ∙ members_absent text c.in_ok-place.field-0 c.args.elements.now c.in_err-get.ensures.lookup.3)

pub returns-clause-members : goal.returns-clause-members
returns-clause-members c text =
    let element = c.in_ok-get.field-0.now in
    ap (members_by text) c.group_inside.ensures
    ∙ members_inside text (tree_of element)
    ∙ sym (ap (λ p. members_at p (held text (forest_of c.args.elements.now))) c.in_ok-place.was
    ∙ members_present text c.in_ok-place.field-0 c.args.elements.now element c.in_ok-get.ensures.lookup.3.0
    ∙ ap (λ e. (held_of text (tree_of e)).members) (sym c.in_ok-get.ensures.lookup.1))

pub returns-clause-smaller : goal.returns-clause-smaller
returns-clause-smaller c inner is =
    let element = c.in_ok-get.field-0.now in
    let inside : tree_inside (tree_of element) ≡ Some (forest_of inner.now) = sym c.group_inside.ensures ∙ ap (option_map (λ i. forest_of i.now)) is in
    omega (arith, inside_smaller (tree_of element) (forest_of inner.now) inside, element_smaller c.in_ok-place.field-0 c.args.elements.now element c.in_ok-get.ensures.lookup.3.0, ap (λ e. tree_size (tree_of e)) c.in_ok-get.ensures.lookup.1)
