-- The declarations of an outline in a row, and the texts of their macro uses.
use Rattle.std.proofs.Common.{ℕ, List, [], ◌∷◌, ◌++◌}
use Rattle.std.specs.List.{flat_map}
use Rattle.std.specs.Str.{IsUtf8}
use Rattle.swift_tree.specs.declared.item.MacroUse.{MacroUse}
use Rattle.swift_tree.specs.Outlines.{Head, ItemSeen, item, BlockSeen, no_block, block, ItemsSeen, none, cons}
use Rattle.expansion_model.specs.Macros.{text_at}

abbrev mutual
  pub heads_from : ItemSeen → List Head
  heads_from (item head inner) = head ∷ heads_in inner

  pub heads_in : BlockSeen → List Head
  heads_in no_block = []
  heads_in (block span shape items) = heads items

  pub heads : ItemsSeen → List Head
  heads none = []
  heads (cons first rest) = heads_from first ++ heads rest

-- a declaration's uses: first those in the arguments of its own attributes
abbrev pub uses_of : Head → List MacroUse
uses_of head = flat_map (λ attribute. attribute.uses) head.attrs ++ head.uses

abbrev pub all_uses : List Head → List MacroUse
all_uses declarations = flat_map uses_of declarations

-- the texts of a use are UTF-8
pub record IsUseReadable (text : List ℕ) (macro_use : MacroUse) : Type 0 where
  pub span : IsUtf8 (text_at text macro_use.span)
  pub name : IsUtf8 (text_at text macro_use.name)
