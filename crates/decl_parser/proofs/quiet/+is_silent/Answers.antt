use Rattle.std.proofs.Common.{◌≡◌, ◌∙◌, ◌&&◌, ap, sym, true, false, not}
use Rattle.swift_lexer.specs.Trees.{tree_of, forest_of}
use Rattle.swift_lexer.proofs.Trees.{tree_of-leaf, tree_of-nest}
use Rattle.element_marks.specs.Quiet.{is_quiet, may_list_accessors}
use Rattle.decl_parser.specs.Levels.{are_silent, is_silent}
use Rattle.decl_parser.proofs.quiet.+is_silent.Goals as goal

pub returns-in-Leaf : goal.returns-in-Leaf
returns-in-Leaf t c = sym (ap (λ e. is_silent c.args.text.now (tree_of e)) c.in-Leaf.is ∙ ap (is_silent c.args.text.now) (tree_of-leaf c.in-Leaf.field-0))

pub returns-then-not-begins_nothing : goal.returns-then-not-begins_nothing
returns-then-not-begins_nothing t c =
    let text = c.args.text.now in
    let inner = forest_of c.in-Nest.group.value.inner.items in
    let within : forest_of c.as_slice-inner.result.now ≡ inner = ap forest_of (c.as_slice-inner.ensures.value ∙ ap (λ group. group.inner.items) c.deref.ensures) in
    let begins : (is_quiet inner && not (may_list_accessors text inner)) ≡ false = ap (λ f. is_quiet f && not (may_list_accessors text f)) (sym within) ∙ sym c.begins_nothing.ensures ∙ c.if-not-begins_nothing.true in
    sym (ap (λ e. is_silent text (tree_of e)) c.in-Nest.is ∙ ap (is_silent text) (tree_of-nest c.in-Nest.group) ∙ ap (λ b. b && are_silent text inner) begins)

pub inner-init : goal.inner-init
inner-init t c =
    let text = c.args.text.now in
    let inner = forest_of c.in-Nest.group.value.inner.items in
    let within : forest_of c.as_slice-inner.result.now ≡ inner = ap forest_of (c.as_slice-inner.ensures.value ∙ ap (λ group. group.inner.items) c.deref.ensures) in
    let begins : (is_quiet inner && not (may_list_accessors text inner)) ≡ true = ap (λ f. is_quiet f && not (may_list_accessors text f)) (sym within) ∙ sym c.begins_nothing.ensures ∙ c.if-not-begins_nothing.false in
    ap (are_silent text) within
    ∙ sym (ap (λ e. is_silent text (tree_of e)) c.in-Nest.is ∙ ap (is_silent text) (tree_of-nest c.in-Nest.group) ∙ ap (λ b. b && are_silent text inner) begins)
