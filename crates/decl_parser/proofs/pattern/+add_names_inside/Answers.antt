use Rattle.std.proofs.Common.{◌≡◌, ◌∙◌, ◌++◌, ap, sym, refl, append-nil}
use Rattle.swift_lexer.specs.Trees.{tree_of, forest_of}
use Rattle.swift_lexer.proofs.Trees.{tree_of-leaf, tree_of-nest}
use Rattle.decl_parser.specs.Bindings.{names_inside, names_of}
use Rattle.decl_parser.proofs.pattern.+add_names_inside.Goals as goal

pub returns-in-Leaf : goal.returns-in-Leaf
unfolding names_inside
returns-in-Leaf t c =
    sym (append-nil c.args.names.now.items)
    ∙ ap (λ l. c.args.names.now.items ++ l) (sym (ap (λ e. names_inside c.args.text.now (tree_of e)) c.in-Leaf.is ∙ ap (names_inside c.args.text.now) (tree_of-leaf c.in-Leaf.field-0)))

pub inner-init : goal.inner-init
unfolding names_inside
inner-init t c =
    let text = c.args.text.now in
    let within : forest_of c.as_slice-inner.result.now ≡ forest_of c.in-Nest.group.value.inner.items = ap forest_of (c.as_slice-inner.ensures.value ∙ ap (λ group. group.inner.items) c.deref.ensures) in
    (ap (λ l. c.args.names.now.items ++ l) (ap (names_of text) within ∙ sym (ap (λ e. names_inside text (tree_of e)) c.in-Nest.is ∙ ap (names_inside text) (tree_of-nest c.in-Nest.group))), refl)
