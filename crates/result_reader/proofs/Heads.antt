-- Declarations as the code reads them.
use Rattle.std.proofs.Common.{◌≡◌, ◌∙◌, Option, Some, None, option_map, refl, ap, Box}
use Rattle.std.specs.declared.alloc.Global.{Global}
use Rattle.swift_tree.specs.declared.item.Block.TheOpen.{Item-F}
use Rattle.swift_tree.specs.declared.item.Block.{Block}
use Rattle.swift_tree.specs.declared.item.Item.{Item, out-Item, map-Item, fold_out-Item}
use Rattle.swift_tree.specs.Outlines.{Head, BlockSeen, ItemSeen, item, block_from, block_step, item_step, block_of, item_of, unboxed}
use Rattle.result_reader.specs.Fit.{outer_head}

head_of : Item-F Block Item → Head
head_of i = record { span = i.span; after = i.after; kind = i.kind; attrs = i.further.attrs; names = i.names; bindings = i.bindings; inherits = i.further.inherits; extended = i.further.extended; uses = i.further.uses; locals = i.further.locals }

mapped : Item-F Block Item → Item-F BlockSeen ItemSeen
mapped x = map-Item Block Item BlockSeen ItemSeen block_of item_of x

inner_at : (x : Item-F Block Item) (o : Option (Box Block Global)) → unboxed (mapped (record x { block = o })).block ≡ option_map block_of (unboxed o)
unfolding mapped
inner_at x None = refl
inner_at x (Some b) = refl

item_of-is : (i : Item) → item_of i ≡ item (head_of (out-Item i)) (block_from (option_map block_of (unboxed (out-Item i).block)))
unfolding item_of block_of mapped head_of
item_of-is i =
    fold_out-Item BlockSeen ItemSeen block_step item_step i
    ∙ ap (λ inner. item (head_of (out-Item i)) (block_from inner)) (inner_at (out-Item i) (out-Item i).block)

pub kind_is : (i : Item) → (outer_head (item_of i)).kind ≡ (out-Item i).kind
unfolding head_of
kind_is i = ap (λ seen. (outer_head seen).kind) (item_of-is i)

pub start_is : (i : Item) → (outer_head (item_of i)).span.start ≡ (out-Item i).span.start
unfolding head_of
start_is i = ap (λ seen. (outer_head seen).span.start) (item_of-is i)

pub attrs_are : (i : Item) → (outer_head (item_of i)).attrs ≡ (out-Item i).further.attrs
unfolding head_of
attrs_are i = ap (λ seen. (outer_head seen).attrs) (item_of-is i)
