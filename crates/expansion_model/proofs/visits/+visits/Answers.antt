use Rattle.std.proofs.Common.{false, ◌++◌, sym, ap, ◌∙◌, inl, inr, append-nil}
use Rattle.swift_tree.specs.Outlines.{block_of, items_of}
use Rattle.expansion_model.specs.Sites.{block_sites, items_sites}
use Rattle.expansion_model.proofs.Parts.{put-none, put-some, block-members, block-body, block-accessors}
use Rattle.expansion_model.proofs.visits.+visits.Goals as goal

pub put_block-returns-in_ok-put_items-in-Members : goal.put_block-returns-in_ok-put_items-in-Members
put_block-returns-in_ok-put_items-in-Members t c =
    c.in_ok-put_items-in-Members.ensures ∙ ap (λ l. c.args.sites.now.items ++ items_sites c.args.text.now c.args.macros.now c.args.plugins.now false (items_of l)) c.deref.ensures.value
    ∙ ap (λ l. c.args.sites.now.items ++ l) (sym (block-members c.args.text.now c.args.macros.now c.args.plugins.now c.args.block.now c.in-Members.is))

pub put_block-returns-in-Body : goal.put_block-returns-in-Body
put_block-returns-in-Body t c =
    elim c.in-Body.is [
      | inl body ↦ sym (append-nil c.args.sites.now.items) ∙ ap (λ l. c.args.sites.now.items ++ l) (sym (block-body c.args.text.now c.args.macros.now c.args.plugins.now c.args.block.now body))
      | inr accessors ↦ sym (append-nil c.args.sites.now.items) ∙ ap (λ l. c.args.sites.now.items ++ l) (sym (block-accessors c.args.text.now c.args.macros.now c.args.plugins.now c.args.block.now accessors))
    ]

pub put_item-returns-in_ok-put_behind-in-Some : goal.put_item-returns-in_ok-put_behind-in-Some
put_item-returns-in_ok-put_behind-in-Some t c =
    put-some c.args.text.now c.args.macros.now c.args.plugins.now c.args.file_scope c.args.sites.now.items _ _ _ c.args.item.now c.in-Some.block c.in_ok-put_before.ensures c.in-Some.is
    (c.in_ok-put_block-in-Some.ensures ∙ ap (λ b. c.put_before.new.sites.items ++ block_sites c.args.text.now c.args.macros.now c.args.plugins.now (block_of b)) c.deref.ensures)
    c.in_ok-put_behind-in-Some.ensures

pub put_item-returns-in_ok-put_behind-in-None : goal.put_item-returns-in_ok-put_behind-in-None
put_item-returns-in_ok-put_behind-in-None t c =
    put-none c.args.text.now c.args.macros.now c.args.plugins.now c.args.file_scope c.args.sites.now.items _ _ c.args.item.now c.in_ok-put_before.ensures c.in-None.is c.in_ok-put_behind-in-None.ensures
