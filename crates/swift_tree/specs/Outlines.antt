-- What contracts see of declarations and outlines: plain data, this project's own.
use Rattle.std.specs.Prelude.{ℕ, List, [], ◌∷◌, map, Option, None, Some, Box}
use Rattle.std.specs.declared.alloc.Global.{Global}
use Rattle.swift_base.specs.declared.place.Span.{Span}
use Rattle.swift_tree.specs.declared.item.Kind.{Kind}
use Rattle.swift_tree.specs.declared.item.MacroUse.{MacroUse}
use Rattle.swift_tree.specs.declared.item.Attr.{Attr}
use Rattle.swift_tree.specs.declared.item.Binding.{Binding}
use Rattle.swift_tree.specs.declared.item.BlockShape.{BlockShape}
use Rattle.swift_tree.specs.declared.item.Block.TheOpen.{Block-F, Item-F}
use Rattle.swift_tree.specs.declared.item.Block.TheFolds.{fold-Block, fold-Item}
use Rattle.swift_tree.specs.declared.item.Block.{Block}
use Rattle.swift_tree.specs.declared.item.Item.{Item}
use Rattle.swift_tree.specs.declared.outline.Outline.{Outline}
use Rattle.swift_tree.specs.declared.outline.Shape.{Shape}

-- a declaration without its block
pub record Head : Type 0 where
  pub span : Span
  pub after : ℕ
  pub kind : Kind
  pub attrs : List Attr
  pub names : List Span
  pub bindings : List Binding
  pub inherits : List Span
  pub extended : Option Span
  pub uses : List MacroUse
  pub locals : List Attr

mutual
  pub data ItemSeen : Type 0 where
    item : Head → BlockSeen → ItemSeen

  pub data BlockSeen : Type 0 where
    no_block : BlockSeen
    block : Span → BlockShape → ItemsSeen → BlockSeen

  pub data ItemsSeen : Type 0 where
    none : ItemsSeen
    cons : ItemSeen → ItemsSeen → ItemsSeen

-- declarations in a row
abbrev pub items_from : List ItemSeen → ItemsSeen
items_from [] = none
items_from (first ∷ rest) = cons first (items_from rest)

abbrev pub block_from : Option BlockSeen → BlockSeen
block_from None = no_block
block_from (Some seen) = seen

-- what the box holds, where there is one
abbrev pub unboxed : {A : Type 0} → Option (Box A Global) → Option A
unboxed None = None
unboxed (Some boxed) = Some boxed.value

abbrev pub block_step : Block-F BlockSeen ItemSeen → BlockSeen
block_step b = block b.span b.shape (items_from b.members.items)

abbrev pub item_step : Item-F BlockSeen ItemSeen → ItemSeen
item_step i = item (record { span = i.span; after = i.after; kind = i.kind; attrs = i.further.attrs; names = i.names; bindings = i.bindings; inherits = i.further.inherits; extended = i.further.extended; uses = i.further.uses; locals = i.further.locals }) (block_from (unboxed i.block))

-- what a block stands for
unfoldable pub block_of : Block → BlockSeen
block_of = fold-Block BlockSeen ItemSeen block_step item_step

-- what a declaration stands for
unfoldable pub item_of : Item → ItemSeen
item_of = fold-Item BlockSeen ItemSeen block_step item_step

-- what declarations in a row stand for
abbrev pub items_of : List Item → ItemsSeen
items_of items = items_from (map item_of items)

-- an outline
pub record OutlineSeen : Type 0 where
  pub text : List ℕ
  pub shape : Shape
  pub items : ItemsSeen
  pub attrs : List Attr
  pub accessors : List Span
  pub inside : Span
  pub uses : List MacroUse
  pub locals : List Attr

-- what an outline stands for, apart from the groups that it was read from
abbrev pub outline_of : Outline → OutlineSeen
outline_of o = record { text = o.text; shape = o.shape; items = items_of o.items.items; attrs = o.attrs; accessors = o.accessors; inside = o.inside; uses = o.uses; locals = o.locals }
