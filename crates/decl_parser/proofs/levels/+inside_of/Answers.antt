use Rattle.std.proofs.Common.{◌≡◌, ◌∙◌, ◌+◌, ap, refl, sym, subst, drop, drop-drop, IfOk}
use Rattle.std.proofs.lemmas.List.{drop_all}
use Rattle.std.specs.Result.{OnOk}
use Rattle.swift_lexer.specs.Trees.{tree_of, forest_of, cons}
use Rattle.swift_lexer.proofs.Trees.{forest_of-drop, tree_of-leaf, tree_of-nest}
use Rattle.element_marks.specs.Levels.{level}
use Rattle.decl_parser.specs.declared.gathering.Gathered.{Gathered}
use Rattle.decl_parser.specs.Gathering.{IsGathered}
use Rattle.decl_parser.specs.Levels.{inside_of, insides, read_inside}
use Rattle.decl_parser.proofs.levels.+inside_of.Goals.{then-is_leaf+in_ok-add_token-in-Nest, else-is_leaf+in_ok-inside-in-Nest+in_ok-add-in-Nest}
use Rattle.decl_parser.proofs.levels.+inside_of.Goals as goal

pub returns-in-Leaf : goal.returns-in-Leaf
unfolding inside_of
returns-in-Leaf n c =
    c.nothing_inside.ensures ∙ sym (ap (λ e. inside_of c.args.text.now (tree_of e)) c.in-Leaf.is ∙ ap (inside_of c.args.text.now) (tree_of-leaf c.in-Leaf.field-0))

pub inner-init : goal.inner-init
inner-init n c = (c.in_ok-read-in-Nest.ensures, refl)

pub inner-preserved : goal.inner-preserved
inner-preserved n c =
    let text = c.args.text.now in
    let inner = c.as_slice-inner.result.now in
    let rest : c.behind-rest.result.now ≡ drop (c.inner.part-index + 1) inner = c.behind-rest.ensures ∙ ap (drop 1) c.inner.invariant.1 ∙ drop-drop 1 c.inner.part-index inner in
    let first = forest_of-drop inner c.inner.part-index c.part-item.result c.inner-test.true c.part-item.is in
    let before : IsGathered text c.inner.read (cons (tree_of c.part-item.result) (forest_of c.behind-rest.result.now)) (forest_of inner) =
    subst (λ forest. IsGathered text c.inner.read forest (forest_of inner)) (first ∙ ap (λ es. cons (tree_of c.part-item.result) (forest_of es)) (sym rest)) c.inner.invariant.0 in
    let next : (read : Gathered) → IsGathered text read (forest_of c.behind-rest.result.now) (forest_of inner) → c.if-is_leaf.read ≡ read
    → IsGathered text c.if-is_leaf.read (forest_of (drop (c.inner.part-index + 1) inner)) (forest_of inner) × (c.behind-rest.result.now ≡ drop (c.inner.part-index + 1) inner) =
    λ read here is. (subst (λ g. IsGathered text g (forest_of (drop (c.inner.part-index + 1) inner)) (forest_of inner)) (sym is) (subst (λ es. IsGathered text read (forest_of es) (forest_of inner)) rest here), rest) in
    elim c.if-is_leaf.branch [
      | then-is_leaf+in_ok-add_token-in-Nest w ↦ next w.add_token.new.self (subst (λ r. OnOk r (IsGathered text w.add_token.new.self (forest_of c.behind-rest.result.now) (forest_of inner))) w.in_ok-add_token-in-Nest.was (w.add_token.ensures (forest_of inner) before)) w.read-is
      | else-is_leaf+in_ok-inside-in-Nest+in_ok-add-in-Nest w ↦ next w.add.new.self (subst (λ r. OnOk r (IsGathered text w.add.new.self (forest_of c.behind-rest.result.now) (forest_of inner))) w.in_ok-add-in-Nest.was (w.add.ensures (forest_of inner) before)) w.read-is
    ]

pub finish-requires : goal.finish-requires
finish-requires n c =
    let inner = c.as_slice-inner.result.now in
    subst (λ forest. IsGathered c.args.text.now c.inner.read forest (forest_of inner)) (ap forest_of (drop_all c.inner.part-index inner c.inner-test.false)) c.inner.invariant.0

pub returns-after-inner : goal.returns-after-inner
unfolding inside_of insides
returns-after-inner n c =
    let text = c.args.text.now in
    let within : forest_of c.as_slice-inner.result.now ≡ forest_of c.in-Nest.group.value.inner.items = ap forest_of (c.as_slice-inner.ensures.value ∙ ap (λ group. group.inner.items) c.deref.ensures) in
    subst (λ x. IfOk c.finish.result (λ inside. inside ≡ x))
    (ap (λ f. read_inside (level text f) (insides text f)) within ∙ sym (ap (λ e. inside_of text (tree_of e)) c.in-Nest.is ∙ ap (inside_of text) (tree_of-nest c.in-Nest.group)))
    c.finish.ensures
