use Rattle.macro_decls.specs.Macros.{is_macro, macro_written}
use Rattle.macro_decls.proofs.Outlines.{all-put}
use Rattle.macro_decls.proofs.roles.put_written.Goals as goal

pub returns : goal.returns
returns c =
    all-put (macro_written c.args.number c.args.outline.now.text) (λ head. is_macro head.kind) c.args.written.now.items c.items.written.items
    c.args.outline.now.items.items c.deref-item-items.result.now c.items.item-index c.deref-item-items.ensures.value c.items-test.false c.items.invariant
