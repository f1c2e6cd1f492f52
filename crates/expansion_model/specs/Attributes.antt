-- What stands at an attribute of a declaration. After SE-0389 and SE-0402.
use Rattle.std.specs.Prelude.{ℕ, ◌==◌, ◌&&◌, not, Bool, true, false, if◌then◌else◌, Option, Some, None, option_map, List, [], ◌∷◌, length, replicate, map}
use Rattle.std.specs.List.{flat_map, list_any}
use Rattle.std.specs.Option.{option_or}
use Rattle.swift_base.specs.declared.plugins.Plugin.{Plugin}
use Rattle.swift_tree.specs.declared.item.Attr.{Attr}
use Rattle.swift_tree.specs.declared.item.Binding.{Binding}
use Rattle.swift_tree.specs.declared.item.BlockShape.{BlockShape}
use Rattle.swift_tree.specs.declared.item.BlockShape.TheVariants as shape
use Rattle.swift_tree.specs.declared.item.Block.{Block, out-Block}
use Rattle.swift_tree.specs.declared.item.Item.{Item, out-Item}
use Rattle.swift_tree.specs.Outlines.{Head, unboxed}
use Rattle.unique_names.specs.declared.role.Role.{Role}
use Rattle.unique_names.specs.declared.role.Role.TheVariants as role
use Rattle.macro_decls.specs.declared.table.MacroDecl.{MacroDecl}
use Rattle.macro_decls.specs.declared.table.RoleDecl.{RoleDecl}
use Rattle.expansion_model.specs.Macros.{macro_of, has_plugin, fits, role_eq}
use Rattle.expansion_model.specs.Uses.{fault_at, of_expression, use_site}
use Rattle.expansion_model.specs.declared.site.Site.{Site}
use Rattle.expansion_model.specs.declared.site.Site.TheVariants as site
use Rattle.expansion_model.specs.declared.site.SiteKind.{SiteKind}
use Rattle.expansion_model.specs.declared.site.SiteKind.TheVariants as kind

-- a declaration as its attributes see it: without what stands in its block
pub record Carrier : Type 0 where
  pub head : Head
  pub shape : Option BlockShape

-- a declaration of the code without its block
abbrev pub head_of : Item → Head
head_of i = let own = out-Item i in record { span = own.span; after = own.after; kind = own.kind; attrs = own.further.attrs; names = own.names; bindings = own.bindings; inherits = own.further.inherits; extended = own.further.extended; uses = own.further.uses; locals = own.further.locals }

abbrev pub shape_in : Block → BlockShape
shape_in b = (out-Block b).shape

abbrev pub carrier : Item → Carrier
carrier i = record { head = head_of i; shape = option_map shape_in (unboxed (out-Item i).block) }

-- exactly one binding, of exactly one name
abbrev pub has_one_name : List Binding → Bool
has_one_name [] = false
has_one_name (binding ∷ []) = length binding.names == 1
has_one_name (binding ∷ other ∷ more) = false

abbrev pub has_body : Option BlockShape → Bool
has_body (Some shape.Body) = true
has_body _ = false

-- the fault of an accessor macro by the variable alone
abbrev pub variable_fault : Carrier → Option SiteKind
variable_fault carrier =
    if not (has_one_name carrier.head.bindings) then Some kind.NotOneBinding
    else if has_body carrier.shape then Some kind.AccessorOnBody else None

abbrev pub place_fault : Role → Carrier → Option SiteKind
place_fault role.Accessor carrier = variable_fault carrier
place_fault _ carrier = None

abbrev pub plugin_fault : List Plugin → MacroDecl → Option SiteKind
plugin_fault plugins declared = if has_plugin declared.module_name plugins then None else Some kind.NoPlugin

-- the fault of a role that fits
abbrev pub fitting_fault : List Plugin → Carrier → MacroDecl → Role → Option SiteKind
fitting_fault plugins carrier declared own = option_or (place_fault own carrier) (plugin_fault plugins declared)

-- a role that doesn't fit isn't asked, and has no fault of its own
abbrev pub role_fault : List Plugin → Carrier → MacroDecl → Role → Option SiteKind
role_fault plugins carrier declared own = if fits own carrier.head.kind then fitting_fault plugins carrier declared own else None

abbrev pub first_fault : List Plugin → Carrier → MacroDecl → List RoleDecl → Option SiteKind
first_fault plugins carrier declared [] = None
first_fault plugins carrier declared (own ∷ others) =
    option_or (role_fault plugins carrier declared own.role) (first_fault plugins carrier declared others)

-- the fault of an attribute that names the macro: no role fits, or the first fault of its roles in their order
abbrev pub attribute_fault : List Plugin → Carrier → MacroDecl → Option SiteKind
attribute_fault plugins carrier declared =
    if list_any (λ own. fits own.role carrier.head.kind) declared.roles
    then first_fault plugins carrier declared declared.roles
    else Some kind.WrongRole

-- a fault names the macro, or the module that has no plug-in
abbrev pub named_by : SiteKind → MacroDecl → List ℕ
named_by kind.NoPlugin declared = declared.module_name
named_by _ declared = declared.name

abbrev pub macro_site : Attr → MacroDecl → Option SiteKind → Site
macro_site attribute declared None = site.Attribute attribute.span
macro_site attribute declared (Some kind) = fault_at attribute.span.start kind (named_by kind declared)

abbrev pub attribute_by : List ℕ → List MacroDecl → List Plugin → Carrier → Attr → Option MacroDecl → List Site
attribute_by text macros plugins carrier attribute None = map (use_site text macros plugins of_expression) attribute.uses
attribute_by text macros plugins carrier attribute (Some declared) =
    macro_site attribute declared (attribute_fault plugins carrier declared) ∷ []

-- what stands at an attribute: the uses in its arguments where it names no macro, else the macro's fault or the attribute
unfoldable pub attribute_sites : List ℕ → List MacroDecl → List Plugin → Carrier → Attr → List Site
attribute_sites text macros plugins carrier attribute = attribute_by text macros plugins carrier attribute (macro_of macros text attribute)

abbrev pub is_none : Option SiteKind → Bool
is_none None = true
is_none (Some kind) = false

-- the macro is asked for the role: it has it, it fits, and has no fault there
abbrev pub asks_macro : List Plugin → Carrier → Role → MacroDecl → Bool
asks_macro plugins carrier wanted declared =
    list_any (λ own. role_eq own.role wanted) declared.roles && fits wanted carrier.head.kind && is_none (fitting_fault plugins carrier declared wanted)

abbrev pub asks_role : List Plugin → Carrier → Role → Option MacroDecl → Bool
asks_role plugins carrier wanted None = false
asks_role plugins carrier wanted (Some declared) = asks_macro plugins carrier wanted declared

-- so many requests for the role, none of which is made yet
abbrev pub role_requests : List ℕ → List MacroDecl → List Plugin → Carrier → Role → ℕ → Attr → List Site
role_requests text macros plugins carrier wanted count attribute =
    if asks_role plugins carrier wanted (macro_of macros text attribute) then replicate count (site.NotBuilt attribute.span.start) else []

-- the requests of a declaration's attributes for one role
unfoldable pub role_sites : List ℕ → List MacroDecl → List Plugin → Carrier → Role → ℕ → List Site
role_sites text macros plugins carrier wanted count =
    flat_map (role_requests text macros plugins carrier wanted count) carrier.head.attrs
