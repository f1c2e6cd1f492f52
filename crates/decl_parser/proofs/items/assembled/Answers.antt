use Rattle.std.proofs.Common.{◌≡◌, ◌+◌, ◌-◌, ◌∙◌, ap, length, drop, map, Ok}
use Rattle.swift_tree.specs.declared.item.Item.{roll-Item}
use Rattle.swift_tree.specs.Outlines.{item, item_of}
use Rattle.swift_tree.proofs.Folds.{item_of-roll}
use Rattle.decl_parser.specs.Attributes.{span_from}
use Rattle.decl_parser.specs.Found.{found_from, seen}
use Rattle.decl_parser.specs.Cut.{after, block_of, braces_seen, head_of, whole_item}
use Rattle.decl_parser.proofs.items.assembled.Goals as goal

pub returns : goal.returns
unfolding whole_item
returns c =
    let list = c.args.own.list.now in
    let from = c.args.own.from in
    let parts = c.args.parts in
    let marks : c.behind-marks.result.now ≡ drop from list = c.behind-marks.ensures in
    let span : c.span_from-span.result ≡ span_from (drop from list) = c.span_from-span.ensures ∙ ap span_from marks in
    let end : c.after.result ≡ after (span_from (drop from list)).end c.args.next.now = c.after.ensures ∙ ap (λ s. after s.end c.args.next.now) span in
    let head : c.head_of.result ≡ head_of (drop from list) = c.head_of.ensures.value ∙ ap head_of marks in
    let found : seen c.in_ok-attrs.field-0 ≡ found_from parts.blocks (from + head_of (drop from list)) list from 0 (length list - from) c.args.insides.now =
    c.in_ok-attrs.ensures ∙ ap (λ b. found_from b (from + c.head_of.result) list from 0 (length list - from) c.args.insides.now) (c.new.ensures.starts ∙ c.items.ensures) ∙ ap (λ h. found_from parts.blocks (from + h) list from 0 (length list - from) c.args.insides.now) head in
    let attrs : c.in_ok-own_attrs.own_attrs ≡ (found_from parts.blocks (from + head_of (drop from list)) list from 0 (length list - from) c.args.insides.now).attrs = c.in_ok-own_attrs.ensures ∙ ap (λ f. f.attrs) found in
    let uses : c.in_ok-all_uses.all_uses ≡ (found_from parts.blocks (from + head_of (drop from list)) list from 0 (length list - from) c.args.insides.now).uses = c.in_ok-all_uses.ensures ∙ ap (λ f. f.uses) found in
    let locals : c.in_ok-all_locals.all_locals ≡ (found_from parts.blocks (from + head_of (drop from list)) list from 0 (length list - from) c.args.insides.now).locals = c.in_ok-all_locals.ensures ∙ ap (λ f. f.locals) found in
    let block : braces_seen c.in_ok-braces.braces ≡ block_of parts.block (map item_of c.args.members.items) = c.in_ok-braces.ensures in
    ap Ok (
    ap (λ f. item_of (roll-Item (record { span = c.span_from-span.result; after = c.after.result; kind = c.args.kind; names = parts.names; bindings = parts.bindings; block = c.in_ok-braces.braces; further = f }))) c.in_ok-further.ensures
    ∙ item_of-roll (record { span = c.span_from-span.result; after = c.after.result; kind = c.args.kind; attrs = c.in_ok-own_attrs.own_attrs; names = parts.names; bindings = parts.bindings; inherits = parts.inherits; extended = parts.extended; uses = c.in_ok-all_uses.all_uses; locals = c.in_ok-all_locals.all_locals }) c.in_ok-braces.braces
    ∙ (λ i. item (record { span = span i; after = end i; kind = c.args.kind; attrs = attrs i; names = parts.names; bindings = parts.bindings; inherits = parts.inherits; extended = parts.extended; uses = uses i; locals = locals i }) (block i)))
