-- What stands at a macro use. After SE-0382 and SE-0397.
use Rattle.std.specs.Prelude.{ℕ, false, if◌then◌else◌, Option, Some, None, List}
use Rattle.swift_base.specs.declared.plugins.Plugin.{Plugin}
use Rattle.swift_tree.specs.declared.item.MacroUse.{MacroUse}
use Rattle.unique_names.specs.declared.role.Role.TheVariants as role
use Rattle.plugin_messages.specs.declared.request.MacroRef.{MacroRef}
use Rattle.macro_decls.specs.declared.table.MacroDecl.{MacroDecl}
use Rattle.macro_decls.specs.Macros.{declaration_named}
use Rattle.expansion_model.specs.Macros.{text_at, has_plugin, has_role}
use Rattle.expansion_model.specs.declared.site.Site.{Site}
use Rattle.expansion_model.specs.declared.site.Site.TheVariants as site
use Rattle.expansion_model.specs.declared.site.SiteKind.{SiteKind}
use Rattle.expansion_model.specs.declared.site.UseKind.{UseKind}
use Rattle.expansion_model.specs.declared.site.SiteKind.TheVariants as kind

abbrev pub fault_at : ℕ → SiteKind → List ℕ → Site
fault_at at kind name = site.Fault (record { at = at; kind = kind; name = name })

abbrev pub target_of : List ℕ → MacroUse → MacroDecl → MacroRef
target_of text macro_use declared = record {
  «module» = declared.module_name;
  type_name = declared.type_name;
  name = text_at text macro_use.name;
}

-- a use that stands for an expression
abbrev pub of_expression : UseKind
of_expression = record { role = role.Expression; file_scope = false }

-- a use that asks its plug-in
abbrev pub request_at : List ℕ → UseKind → MacroUse → MacroDecl → Site
request_at text wanted macro_use declared =
    site.Asks (record { macro_use = macro_use; target = target_of text macro_use declared; stands_for = wanted })

abbrev pub served_use : List ℕ → List Plugin → UseKind → MacroUse → MacroDecl → Site
served_use text plugins wanted macro_use declared =
    if has_plugin declared.module_name plugins
    then request_at text wanted macro_use declared
    else fault_at macro_use.span.start kind.NoPlugin declared.module_name

abbrev pub use_of_macro : List ℕ → List Plugin → UseKind → MacroUse → Option MacroDecl → Site
use_of_macro text plugins wanted macro_use None = fault_at macro_use.span.start kind.UnknownMacro (text_at text macro_use.name)
use_of_macro text plugins wanted macro_use (Some declared) =
    if has_role wanted.role declared
    then served_use text plugins wanted macro_use declared
    else fault_at macro_use.span.start kind.WrongRole (text_at text macro_use.name)

-- what stands at a use, where a macro for this is wanted
unfoldable pub use_site : List ℕ → List MacroDecl → List Plugin → UseKind → MacroUse → Site
use_site text macros plugins wanted macro_use = use_of_macro text plugins wanted macro_use (declaration_named (text_at text macro_use.name) macros)
