-- The names of declarations as the code reads them.
use Rattle.std.proofs.Common.{◌≡◌, ◌∙◌, Option, Some, None, List, [], option_map, refl, ap, ◌≢◌, Box}
use Rattle.std.specs.declared.alloc.Global.{Global}
use Rattle.swift_base.specs.declared.place.Span.{Span}
use Rattle.swift_tree.specs.declared.item.Block.TheOpen.{Item-F}
use Rattle.swift_tree.specs.declared.item.Block.{Block, out-Block, fold_out-Block}
use Rattle.swift_tree.specs.declared.item.Item.{Item, out-Item, map-Item, fold_out-Item}
use Rattle.swift_tree.specs.declared.item.Kind.{Kind}
use Rattle.swift_tree.specs.declared.item.Kind.TheVariants.{Extension}
use Rattle.swift_tree.specs.declared.item.BlockShape.{BlockShape}
use Rattle.swift_tree.specs.declared.item.BlockShape.TheVariants.{Members}
use Rattle.swift_tree.specs.Outlines.{Head, ItemSeen, ItemsSeen, item, BlockSeen, block, block_from, block_step, item_step, block_of, item_of, items_of, unboxed}
use Rattle.role_names.specs.DeclaredNames.{own_names, names_in_row, names_by_kind, member_names, declared_names}

head_of : Item-F Block Item → Head
head_of i = record { span = i.span; after = i.after; kind = i.kind; attrs = i.further.attrs; names = i.names; bindings = i.bindings; inherits = i.further.inherits; extended = i.further.extended; uses = i.further.uses; locals = i.further.locals }

mapped : Item-F Block Item → Item-F BlockSeen ItemSeen
mapped x = map-Item Block Item BlockSeen ItemSeen block_of item_of x

inner_at : (x : Item-F Block Item) (o : Option (Box Block Global)) → unboxed (mapped (record x { block = o })).block ≡ option_map block_of (unboxed o)
unfolding mapped
inner_at x None = refl
inner_at x (Some b) = refl

item_of-is : (i : Item) → item_of i ≡ item (head_of (out-Item i)) (block_from (option_map block_of (unboxed (out-Item i).block)))
unfolding item_of block_of mapped head_of
item_of-is i =
    fold_out-Item BlockSeen ItemSeen block_step item_step i
    ∙ ap (λ inner. item (head_of (out-Item i)) (block_from inner)) (inner_at (out-Item i) (out-Item i).block)

pub block_of-is : (b : Block) → block_of b ≡ block (out-Block b).span (out-Block b).shape (items_of (out-Block b).members.items)
unfolding item_of block_of
block_of-is b = fold_out-Block BlockSeen ItemSeen block_step item_step b

pub own_names_are : (i : Item) → own_names (item_of i) ≡ (out-Item i).names
unfolding head_of
own_names_are i = ap own_names (item_of-is i)

pub names_of_members : (b : Block) → (out-Block b).shape ≡ Members → member_names (block_of b) ≡ names_in_row (items_of (out-Block b).members.items)
names_of_members b members = ap member_names (block_of-is b) ∙ ap (λ shape. member_names (block (out-Block b).span shape (items_of (out-Block b).members.items))) members

without : (shape : BlockShape) (span : Span) (members : ItemsSeen) → shape ≢ Members → member_names (block span shape members) ≡ []
without Members span members other = absurd (other refl)
without _ span members other = refl

pub names_of_other : (b : Block) → (out-Block b).shape ≢ Members → member_names (block_of b) ≡ []
names_of_other b other = ap member_names (block_of-is b) ∙ without (out-Block b).shape (out-Block b).span (items_of (out-Block b).members.items) other

declared_names-is : (i : Item) → declared_names (item_of i) ≡ names_by_kind (out-Item i).kind (out-Item i).names (block_from (option_map block_of (unboxed (out-Item i).block)))
unfolding head_of
declared_names-is i = ap declared_names (item_of-is i)

pub names_of_extension : (i : Item) → (out-Item i).kind ≡ Extension → declared_names (item_of i) ≡ member_names (block_from (option_map block_of (unboxed (out-Item i).block)))
names_of_extension i extension =
    declared_names-is i ∙ ap (λ kind. names_by_kind kind (out-Item i).names (block_from (option_map block_of (unboxed (out-Item i).block)))) extension

own : (kind : Kind) (names : List Span) (inside : BlockSeen) → kind ≢ Extension → names_by_kind kind names inside ≡ names
own Extension names inside other = absurd (other refl)
own _ names inside other = refl

pub names_of_its_own : (i : Item) → (out-Item i).kind ≢ Extension → declared_names (item_of i) ≡ (out-Item i).names
names_of_its_own i other = declared_names-is i ∙ own (out-Item i).kind (out-Item i).names (block_from (option_map block_of (unboxed (out-Item i).block))) other
