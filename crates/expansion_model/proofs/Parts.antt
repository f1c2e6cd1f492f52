-- The sites of a declaration, by its parts.
use Rattle.std.proofs.Common.{Bool, false, ◌≡◌, ℕ, Option, Some, None, List, [], ◌++◌, not, option_map, append_assoc, append-nil, refl, sym, ap, ap₂, ◌∙◌, Box}
use Rattle.std.specs.declared.alloc.Global.{Global}
use Rattle.swift_base.specs.declared.plugins.Plugin.{Plugin}
use Rattle.swift_tree.specs.declared.item.Block.{Block, out-Block}
use Rattle.swift_tree.specs.declared.item.BlockShape.{BlockShape}
use Rattle.swift_tree.specs.declared.item.BlockShape.TheVariants as shape
use Rattle.swift_tree.specs.declared.item.Item.{Item, out-Item}
use Rattle.swift_tree.specs.Outlines.{BlockSeen, block, block_from, block_of, item_of, items_of, unboxed}
use Rattle.macro_decls.specs.declared.table.MacroDecl.{MacroDecl}
use Rattle.expansion_model.specs.Attributes.{Carrier, carrier, head_of, shape_in}
use Rattle.expansion_model.specs.Sites.{carrier_of, shape_of, is_use, is_member, count_members, members_in, members_of, sites_before, sites_behind, item_sites, block_sites, items_sites}
use Rattle.expansion_model.specs.declared.site.Site.{Site}
use Rattle.expansion_model.proofs.Outlines.{item_of-is, block_of-is}

abbrev pub inner_of : Item → BlockSeen
inner_of i = block_from (option_map block_of (unboxed (out-Item i).block))

shape_is : (o : Option Block) → shape_of (block_from (option_map block_of o)) ≡ option_map shape_in o
shape_is None = refl
shape_is (Some b) = ap shape_of (block_of-is b)

carrier_is : (i : Item) → carrier_of (head_of i) (inner_of i) ≡ carrier i
carrier_is i = ap (λ (s : Option BlockShape). record { head = head_of i; shape = s }) (shape_is (unboxed (out-Item i).block))

pub members_is : (i : Item) → members_of (item_of i) ≡ members_in (inner_of i)
members_is i = ap members_of (item_of-is i)

pub member_is : (i : Item) → is_member (item_of i) ≡ not (is_use (out-Item i).kind)
member_is i = ap is_member (item_of-is i)

in_shape : (b : Block) (s : BlockShape) → (out-Block b).shape ≡ s → members_in (block_of b) ≡ members_in (block (out-Block b).span s (items_of (out-Block b).members.items))
in_shape b s is = ap members_in (block_of-is b) ∙ ap (λ t. members_in (block (out-Block b).span t (items_of (out-Block b).members.items))) is

pub members_in-members : (b : Block) → (out-Block b).shape ≡ shape.Members → members_in (block_of b) ≡ count_members (items_of (out-Block b).members.items)
members_in-members b is = in_shape b shape.Members is

pub members_in-body : (b : Block) → (out-Block b).shape ≡ shape.Body → members_in (block_of b) ≡ 0
members_in-body b is = in_shape b shape.Body is

pub members_in-accessors : (b : Block) → (out-Block b).shape ≡ shape.Accessors → members_in (block_of b) ≡ 0
members_in-accessors b is = in_shape b shape.Accessors is

pub members_is-none : (i : Item) → (out-Item i).block ≡ None → members_of (item_of i) ≡ 0
members_is-none i lacks = members_is i ∙ ap (λ o. members_in (block_from (option_map block_of (unboxed o)))) lacks

pub members_is-some : (i : Item) (b : Box Block Global) → (out-Item i).block ≡ Some b → members_of (item_of i) ≡ members_in (block_of b.value)
members_is-some i b some = members_is i ∙ ap (λ o. members_in (block_from (option_map block_of (unboxed o)))) some

module _ (text : List ℕ) (macros : List MacroDecl) (plugins : List Plugin) where
  item_is : (file_scope : Bool) (i : Item) → item_sites text macros plugins file_scope (item_of i)
      ≡ sites_before text macros plugins file_scope (carrier i) (members_of (item_of i)) ++ (block_sites text macros plugins (inner_of i) ++ sites_behind text macros plugins (carrier i))
  item_is file_scope i =
      let P : Carrier → ℕ → List Site = λ c n. sites_before text macros plugins file_scope c n ++ (block_sites text macros plugins (inner_of i) ++ sites_behind text macros plugins c) in
      ap (item_sites text macros plugins file_scope) (item_of-is i) ∙ ap₂ P (carrier_is i) (sym (members_is i))

  inner_none : (i : Item) → (out-Item i).block ≡ None → block_sites text macros plugins (inner_of i) ≡ []
  inner_none i lacks = ap (λ o. block_sites text macros plugins (block_from (option_map block_of (unboxed o)))) lacks

  inner_some : (i : Item) (b : Box Block Global) → (out-Item i).block ≡ Some b → block_sites text macros plugins (inner_of i) ≡ block_sites text macros plugins (block_of b.value)
  inner_some i b some = ap (λ o. block_sites text macros plugins (block_from (option_map block_of (unboxed o)))) some

  -- what is put for a declaration, one part behind the other
  put_by : (file_scope : Bool) (before first inner last : List Site) (i : Item) → first ≡ before ++ sites_before text macros plugins file_scope (carrier i) (members_of (item_of i))
      → inner ≡ first ++ block_sites text macros plugins (inner_of i) → last ≡ inner ++ sites_behind text macros plugins (carrier i) → last ≡ before ++ item_sites text macros plugins file_scope (item_of i)
  put_by file_scope before first inner last i begins holds ends =
      let fore = sites_before text macros plugins file_scope (carrier i) (members_of (item_of i)) in
      let middle = block_sites text macros plugins (inner_of i) in
      let hind = sites_behind text macros plugins (carrier i) in
      ends ∙ ap (λ (l : List Site). l ++ hind) (holds ∙ ap (λ (l : List Site). l ++ middle) begins)
      ∙ append_assoc (before ++ fore) middle hind ∙ append_assoc before fore (middle ++ hind) ∙ ap (λ (l : List Site). before ++ l) (sym (item_is file_scope i))

  pub put-none : (file_scope : Bool) (before first last : List Site) (i : Item) → first ≡ before ++ sites_before text macros plugins file_scope (carrier i) (members_of (item_of i))
      → (out-Item i).block ≡ None → last ≡ first ++ sites_behind text macros plugins (carrier i) → last ≡ before ++ item_sites text macros plugins file_scope (item_of i)
  put-none file_scope before first last i begins lacks ends =
      put_by file_scope before first (first ++ []) last i begins (ap (λ (l : List Site). first ++ l) (sym (inner_none i lacks))) (ends ∙ ap (λ (l : List Site). l ++ sites_behind text macros plugins (carrier i)) (sym (append-nil first)))

  pub put-some : (file_scope : Bool) (before first inner last : List Site) (i : Item) (b : Box Block Global) → first ≡ before ++ sites_before text macros plugins file_scope (carrier i) (members_of (item_of i))
      → (out-Item i).block ≡ Some b → inner ≡ first ++ block_sites text macros plugins (block_of b.value)
      → last ≡ inner ++ sites_behind text macros plugins (carrier i) → last ≡ before ++ item_sites text macros plugins file_scope (item_of i)
  put-some file_scope before first inner last i b begins some holds ends =
      put_by file_scope before first inner last i begins (holds ∙ ap (λ (l : List Site). first ++ l) (sym (inner_some i b some))) ends

  -- only a block of members has members
  pub block-members : (b : Block) → (out-Block b).shape ≡ shape.Members → block_sites text macros plugins (block_of b) ≡ items_sites text macros plugins false (items_of (out-Block b).members.items)
  block-members b is =
      ap (block_sites text macros plugins) (block_of-is b) ∙ ap (λ s. block_sites text macros plugins (block (out-Block b).span s (items_of (out-Block b).members.items))) is

  pub block-body : (b : Block) → (out-Block b).shape ≡ shape.Body → block_sites text macros plugins (block_of b) ≡ []
  block-body b is =
      ap (block_sites text macros plugins) (block_of-is b) ∙ ap (λ s. block_sites text macros plugins (block (out-Block b).span s (items_of (out-Block b).members.items))) is

  pub block-accessors : (b : Block) → (out-Block b).shape ≡ shape.Accessors → block_sites text macros plugins (block_of b) ≡ []
  block-accessors b is =
      ap (block_sites text macros plugins) (block_of-is b) ∙ ap (λ s. block_sites text macros plugins (block (out-Block b).span s (items_of (out-Block b).members.items))) is
