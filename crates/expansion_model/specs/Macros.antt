-- What a declared macro may do at a place: the table of roles and kinds, after SE-0382, SE-0389 and SE-0397.
use Rattle.std.specs.Prelude.{ℕ, Bool, true, false, if◌then◌else◌, Option, None, List, find, slice_range, is_some}
use Rattle.std.specs.List.{list_any}
use Rattle.std.specs.Str.{bytes_eq}
use Rattle.swift_base.specs.declared.place.Span.{Span}
use Rattle.swift_base.specs.declared.plugins.Plugin.{Plugin}
use Rattle.swift_tree.specs.declared.item.Kind.{Kind}
use Rattle.swift_tree.specs.declared.item.Kind.TheVariants as kind
use Rattle.swift_tree.specs.declared.item.Attr.{Attr}
use Rattle.unique_names.specs.declared.role.Role.{Role}
use Rattle.unique_names.specs.declared.role.Role.TheVariants as role
use Rattle.unique_names.specs.contracts.role.RolePartialEq.TheImpl as equality
use Rattle.macro_decls.specs.declared.table.MacroDecl.{MacroDecl}
use Rattle.macro_decls.specs.Macros.{declaration_named}

-- a place of the text as bytes
abbrev pub text_at : List ℕ → Span → List ℕ
text_at text span = slice_range text span.start span.end

-- the macro that an attribute names; a dotted name is no macro's
abbrev pub macro_of : List MacroDecl → List ℕ → Attr → Option MacroDecl
macro_of macros text attribute = if attribute.dotted then None else declaration_named (text_at text attribute.name) macros

-- the plug-in of a module
abbrev pub plugin_for : List ℕ → List Plugin → Option Plugin
plugin_for module_name plugins = find (λ plugin. bytes_eq plugin.module module_name) plugins

abbrev pub has_plugin : List ℕ → List Plugin → Bool
has_plugin module_name plugins = is_some (plugin_for module_name plugins)

abbrev pub role_eq : Role → Role → Bool
role_eq = (equality.ghosts).eq

-- the macro has the role
abbrev pub has_role : Role → MacroDecl → Bool
has_role wanted declared = list_any (λ own. role_eq own.role wanted) declared.roles

-- types without protocols
abbrev pub is_own_type : Kind → Bool
is_own_type kind.Struct = true
is_own_type kind.Class = true
is_own_type kind.Enum = true
is_own_type kind.Actor = true
is_own_type _ = false

abbrev pub has_members : Kind → Bool
has_members kind.Protocol = true
has_members kind.Extension = true
has_members other = is_own_type other

abbrev pub is_variable : Kind → Bool
is_variable kind.Var = true
is_variable _ = false

abbrev pub may_have_peers : Kind → Bool
may_have_peers kind.Import = false
may_have_peers kind.Operator = false
may_have_peers kind.Precedencegroup = false
may_have_peers kind.Macro = false
may_have_peers kind.UseItem = false
may_have_peers _ = true

-- the role of an attribute fits a declaration of the kind
abbrev pub fits : Role → Kind → Bool
fits role.MemberAttribute kind = has_members kind
fits role.Member kind = has_members kind
fits role.Accessor kind = is_variable kind
fits role.Peer kind = may_have_peers kind
fits role.Extension kind = is_own_type kind
fits role.Expression kind = false
fits role.Declaration kind = false
