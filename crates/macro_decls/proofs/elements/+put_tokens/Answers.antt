use Rattle.std.proofs.Common.{◌≡◌, ◌∙◌, ◌++◌, ap, sym}
use Rattle.std.proofs.lemmas.Result.{IfOk-equal}
use Rattle.swift_lexer.specs.Tiles.{bytes_of}
use Rattle.macro_decls.proofs.Trees.{leaf-text, nest-put}
use Rattle.macro_decls.proofs.elements.+put_tokens.Goals as goal

pub returns-in-Leaf : goal.returns-in-Leaf
returns-in-Leaf t c =
    IfOk-equal _ _ _ _ c.put_token.ensures (ap (λ l. c.args.bytes.now.items ++ l) (sym (leaf-text c.args.text.now c.args.element.now c.in-Leaf.token c.in-Leaf.is)))

pub returns-after-inner : goal.returns-after-inner
returns-after-inner t c =
    let left = c.deref.result.now.left in
    let right = c.deref-in-Nest-2.result.now.right in
    let parts : c.deref-part-items.result.now ≡ c.in-Nest.group.value.inner.items = c.deref-part-items.ensures.value ∙ ap (λ group. group.inner.items) c.deref-in-Nest.ensures in
    IfOk-equal c.put_token-in-Nest-2.result c.put_token-in-Nest-2.new.bytes.items (c.inner.bytes.items ++ bytes_of c.args.text.now right) _ c.put_token-in-Nest-2.ensures
    (nest-put c.args.text.now c.args.element.now c.in-Nest.group c.in-Nest.is left (ap (λ group. group.left) c.deref.ensures) c.deref-part-items.result.now parts right (ap (λ group. group.right) c.deref-in-Nest-2.ensures)
    c.args.bytes.now.items c.put_token-in-Nest.new.bytes.items c.inner.bytes.items c.inner.part-index c.in_ok-put_token-in-Nest.ensures c.inner-test.false c.inner.invariant)
