-- The sites of a text, in the order of their visits: this project's own, after SE-0382, SE-0389, SE-0397 and SE-0402.
use Rattle.std.specs.Prelude.{ℕ, suc, ◌+◌, not, nat_lt, Bool, true, false, if◌then◌else◌, Option, Some, None, List, [], ◌∷◌, ◌++◌, take, drop}
use Rattle.std.specs.List.{flat_map}
use Rattle.swift_base.specs.declared.plugins.Plugin.{Plugin}
use Rattle.swift_tree.specs.declared.item.Kind.{Kind}
use Rattle.swift_tree.specs.declared.item.Kind.TheVariants as kind
use Rattle.swift_tree.specs.declared.item.MacroUse.{MacroUse}
use Rattle.swift_tree.specs.declared.item.Attr.{Attr}
use Rattle.swift_tree.specs.declared.item.BlockShape.{BlockShape}
use Rattle.swift_tree.specs.declared.item.BlockShape.TheVariants as shape
use Rattle.swift_tree.specs.Outlines.{Head, ItemSeen, item, BlockSeen, no_block, block, ItemsSeen, none, cons, OutlineSeen}
use Rattle.unique_names.specs.declared.role.Role.TheVariants as role
use Rattle.macro_decls.specs.declared.table.MacroDecl.{MacroDecl}
use Rattle.expansion_model.specs.Macros.{text_at, macro_of}
use Rattle.expansion_model.specs.Uses.{fault_at, of_expression, use_site}
use Rattle.expansion_model.specs.Attributes.{Carrier, attribute_sites, role_sites}
use Rattle.expansion_model.specs.declared.site.Site.{Site}
use Rattle.expansion_model.specs.declared.site.SiteKind.TheVariants as fault
use Rattle.expansion_model.specs.declared.site.UseKind.{UseKind}

abbrev pub is_use : Kind → Bool
is_use kind.UseItem = true
is_use _ = false

-- a use in a declaration's place makes declarations, at file scope or in a block
abbrev pub use_at : Bool → Kind → UseKind
use_at file_scope kind.UseItem = record { role = role.Declaration; file_scope = file_scope }
use_at file_scope _ = of_expression

abbrev pub local_by : Attr → Option MacroDecl → List ℕ → List Site
local_by attribute None name = []
local_by attribute (Some declared) name = fault_at attribute.span.start fault.LocalAttached name ∷ []

-- a local attribute is a fault where it names a macro
abbrev pub local_sites : List ℕ → List MacroDecl → Attr → List Site
local_sites text macros attribute = local_by attribute (macro_of macros text attribute) (text_at text attribute.name)

-- how many of the local attributes begin before the use
abbrev pub before_use : MacroUse → List Attr → ℕ
before_use macro_use [] = 0
before_use macro_use (attribute ∷ locals) = if nat_lt attribute.span.start macro_use.span.start then suc (before_use macro_use locals) else 0

-- uses and local attributes by their offsets
abbrev pub own_sites : List ℕ → List MacroDecl → List Plugin → UseKind → List MacroUse → List Attr → List Site
own_sites text macros plugins wanted [] locals = flat_map (local_sites text macros) locals
own_sites text macros plugins wanted (macro_use ∷ uses) locals =
    flat_map (local_sites text macros) (take (before_use macro_use locals) locals)
    ++ (use_site text macros plugins wanted macro_use ∷ own_sites text macros plugins wanted uses (drop (before_use macro_use locals) locals))

abbrev pub shape_of : BlockSeen → Option BlockShape
shape_of no_block = None
shape_of (block span shape items) = Some shape

abbrev pub one_if : Bool → ℕ
one_if true = 1
one_if false = 0

abbrev pub is_member : ItemSeen → Bool
is_member (item head braces) = not (is_use head.kind)

-- the declarations in a row that are no macro uses
abbrev pub count_members : ItemsSeen → ℕ
count_members none = 0
count_members (cons first rest) = one_if (is_member first) + count_members rest

-- only a block of members has members
abbrev pub members_in : BlockSeen → ℕ
members_in no_block = 0
members_in (block span shape.Members items) = count_members items
members_in (block span _ items) = 0

abbrev pub members_of : ItemSeen → ℕ
members_of (item head braces) = members_in braces

abbrev pub carrier_of : Head → BlockSeen → Carrier
carrier_of head braces = record { head = head; shape = shape_of braces }

-- what is visited of a declaration before its members
unfoldable pub sites_before : List ℕ → List MacroDecl → List Plugin → Bool → Carrier → ℕ → List Site
sites_before text macros plugins file_scope carrier members =
    flat_map (attribute_sites text macros plugins carrier) carrier.head.attrs
    ++ (role_sites text macros plugins carrier role.MemberAttribute members
    ++ (role_sites text macros plugins carrier role.Accessor 1
    ++ own_sites text macros plugins (use_at file_scope carrier.head.kind) carrier.head.uses carrier.head.locals))

-- and behind them
unfoldable pub sites_behind : List ℕ → List MacroDecl → List Plugin → Carrier → List Site
sites_behind text macros plugins carrier =
    role_sites text macros plugins carrier role.Member 1
    ++ (role_sites text macros plugins carrier role.Peer 1
    ++ role_sites text macros plugins carrier role.Extension 1)

abbrev mutual
  pub item_sites : List ℕ → List MacroDecl → List Plugin → Bool → ItemSeen → List Site
  item_sites text macros plugins file_scope (item head braces) =
      sites_before text macros plugins file_scope (carrier_of head braces) (members_in braces)
      ++ (block_sites text macros plugins braces ++ sites_behind text macros plugins (carrier_of head braces))

  pub block_sites : List ℕ → List MacroDecl → List Plugin → BlockSeen → List Site
  block_sites text macros plugins no_block = []
  block_sites text macros plugins (block span shape.Members items) = items_sites text macros plugins false items
  block_sites text macros plugins (block span _ items) = []

  pub items_sites : List ℕ → List MacroDecl → List Plugin → Bool → ItemsSeen → List Site
  items_sites text macros plugins file_scope none = []
  items_sites text macros plugins file_scope (cons first rest) =
      item_sites text macros plugins file_scope first ++ items_sites text macros plugins file_scope rest

-- the sites of an outline, at file scope or in a block, with these macros and plug-ins: those of its declarations, and
-- of an expression's own uses
unfoldable pub sites_of : List MacroDecl → List Plugin → Bool → OutlineSeen → List Site
sites_of macros plugins file_scope seen =
    items_sites seen.text macros plugins file_scope seen.items
    ++ own_sites seen.text macros plugins of_expression seen.uses seen.locals
