-- The equations of declarations and their blocks.
use Rattle.std.proofs.Common.{◌≡◌, Option, Some, None, option_map, refl, ap, ◌∙◌, Box}
use Rattle.std.specs.declared.alloc.Global.{Global}
use Rattle.swift_tree.specs.declared.item.Block.TheOpen.{Item-F}
use Rattle.swift_tree.specs.declared.item.Block.{Block, out-Block, fold_out-Block}
use Rattle.swift_tree.specs.declared.item.Item.{Item, out-Item, map-Item, fold_out-Item}
use Rattle.swift_tree.specs.Outlines.{ItemSeen, item, BlockSeen, block, block_from, block_step, item_step, block_of, item_of, items_of, unboxed}
use Rattle.expansion_model.specs.Attributes.{head_of}

mapped : Item-F Block Item → Item-F BlockSeen ItemSeen
mapped x = map-Item Block Item BlockSeen ItemSeen block_of item_of x

inner_at : (x : Item-F Block Item) (o : Option (Box Block Global)) → unboxed (mapped (record x { block = o })).block ≡ option_map block_of (unboxed o)
unfolding mapped
inner_at x None = refl
inner_at x (Some b) = refl

pub item_of-is : (i : Item) → item_of i ≡ item (head_of i) (block_from (option_map block_of (unboxed (out-Item i).block)))
unfolding item_of block_of mapped
item_of-is i =
    fold_out-Item BlockSeen ItemSeen block_step item_step i
    ∙ ap (λ inner. item (head_of i) (block_from inner)) (inner_at (out-Item i) (out-Item i).block)

pub block_of-is : (b : Block) → block_of b ≡ block (out-Block b).span (out-Block b).shape (items_of (out-Block b).members.items)
unfolding item_of block_of
block_of-is b = fold_out-Block BlockSeen ItemSeen block_step item_step b
