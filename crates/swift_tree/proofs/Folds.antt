-- What declarations and blocks stand for, by what they are made of.
use Rattle.std.proofs.Common.{◌≡◌, Option, Some, None, Box, option_map}
use Rattle.std.specs.declared.alloc.Global.{Global}
use Rattle.swift_tree.specs.declared.item.Block.TheOpen.{Block-F, Item-F}
use Rattle.swift_tree.specs.declared.item.Block.TheFolds.{fold-roll-Block, fold-roll-Item}
use Rattle.swift_tree.specs.declared.item.Block.{Block, roll-Block}
use Rattle.swift_tree.specs.declared.item.Item.{Item, roll-Item}
use Rattle.swift_tree.specs.Outlines.{Head, BlockSeen, ItemSeen, item, block, block_from, items_of, block_of, item_of, block_step, item_step, unboxed}

pub block_of-roll : (b : Block-F Block Item) → block_of (roll-Block b) ≡ block b.span b.shape (items_of b.members.items)
unfolding block_of item_of
block_of-roll b = fold-roll-Block BlockSeen ItemSeen block_step item_step b

-- a declaration by its parts
abbrev with_block : Head → Option (Box Block Global) → Item-F Block Item
with_block h b = record { span = h.span; after = h.after; kind = h.kind; names = h.names; bindings = h.bindings; block = b; further = record { attrs = h.attrs; inherits = h.inherits; extended = h.extended; uses = h.uses; locals = h.locals } }

pub item_of-roll : (h : Head) (b : Option (Box Block Global)) → item_of (roll-Item (with_block h b)) ≡ item h (block_from (option_map block_of (unboxed b)))
unfolding block_of item_of
item_of-roll h None = fold-roll-Item BlockSeen ItemSeen block_step item_step (with_block h None)
item_of-roll h (Some b) = fold-roll-Item BlockSeen ItemSeen block_step item_step (with_block h (Some b))
