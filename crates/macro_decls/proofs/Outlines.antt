-- The declarations of an outline in a row.
use Rattle.std.proofs.Common.{◌≡◌, ◌≤◌, ℕ, Bool, Option, Some, None, List, [], ◌∷◌, ◌++◌, drop, filter, length, map, option_map, refl, sym, ap, subst, ◌∙◌, Box}
use Rattle.std.specs.declared.alloc.Global.{Global}
use Rattle.std.proofs.lemmas.List.{append-nil, drop_all}
use Rattle.swift_tree.specs.declared.item.Block.TheOpen.{Item-F}
use Rattle.swift_tree.specs.declared.item.Block.{Block}
use Rattle.swift_tree.specs.declared.item.Item.{Item, out-Item, map-Item, fold_out-Item}
use Rattle.swift_tree.specs.Outlines.{Head, BlockSeen, ItemSeen, item, block_from, block_step, item_step, block_of, item_of, items_of, unboxed}
use Rattle.macro_decls.specs.Macros.{head_of, outer_head, outer_heads}

mapped : Item-F Block Item → Item-F BlockSeen ItemSeen
mapped x = map-Item Block Item BlockSeen ItemSeen block_of item_of x

inner_at : (x : Item-F Block Item) (o : Option (Box Block Global)) → unboxed (mapped (record x { block = o })).block ≡ option_map block_of (unboxed o)
unfolding mapped
inner_at x None = refl
inner_at x (Some b) = refl

item_of-is : (i : Item) → item_of i ≡ item (head_of i) (block_from (option_map block_of (unboxed (out-Item i).block)))
unfolding item_of block_of mapped
item_of-is i =
    fold_out-Item BlockSeen ItemSeen block_step item_step i
    ∙ ap (λ inner. item (head_of i) (block_from inner)) (inner_at (out-Item i) (out-Item i).block)

pub outer_heads-is : (items : List Item) → outer_heads (items_of items) ≡ map head_of items
outer_heads-is [] = refl
outer_heads-is (i ∷ items) = ap (λ first. outer_head first ∷ outer_heads (items_of items)) (item_of-is i) ∙ ap (λ rest. head_of i ∷ rest) (outer_heads-is items)

-- where nothing is left, the declarations of the whole row are put behind those before
pub all-put : {A : Type 0} (one : Head → A) (test : Head → Bool) (before so_far : List A) (items row : List Item) (i : ℕ) → row ≡ items → length row ≤ i
    → so_far ++ map one (filter test (map head_of (drop i items))) ≡ before ++ map one (filter test (map head_of items))
    → so_far ≡ before ++ map one (filter test (outer_heads (items_of items)))
all-put {A} one test before so_far items row i same past walked =
    let put : List Item → List A = λ l. map one (filter test (map head_of l)) in
    sym (append-nil so_far) ∙ ap (λ (l : List Item). so_far ++ put l) (sym (drop_all i items (subst (λ (l : List Item). length l ≤ i) same past))) ∙ walked
    ∙ ap (λ (l : List Head). before ++ map one (filter test l)) (sym (outer_heads-is items))
