-- The sites of a buffer: those of its outline, where no macro expands into itself. This project's own.
use Rattle.std.specs.Prelude.{ℕ, Bool, true, false, List, map}
use Rattle.swift_base.specs.declared.plugins.Plugin.{Plugin}
use Rattle.macro_decls.specs.declared.table.MacroDecl.{MacroDecl}
use Rattle.expansion_model.specs.Buffers.{BufferSeen, pair_of, is_among}
use Rattle.expansion_model.specs.Sites.{sites_of}
use Rattle.expansion_model.specs.Uses.{fault_at}
use Rattle.expansion_model.specs.declared.buffer.Ancestor.{Ancestor}
use Rattle.expansion_model.specs.declared.site.Ask.{Ask}
use Rattle.expansion_model.specs.declared.site.Site.{Site}
use Rattle.expansion_model.specs.declared.site.Site.TheVariants as site
use Rattle.expansion_model.specs.declared.site.SiteKind.TheVariants as kind

abbrev pub ask_if : Bool → Ask → Site
ask_if true ask = fault_at ask.macro_use.span.start kind.Recursive ask.target.name
ask_if false ask = site.Asks ask

-- a use is a fault where its macro and role stand among the ancestors
abbrev pub unless_recursive : List Ancestor → Site → Site
unless_recursive ancestors (site.Asks ask) = ask_if (is_among (pair_of ask) ancestors) ask
unless_recursive ancestors (site.Fault fault) = site.Fault fault
unless_recursive ancestors (site.NotBuilt at) = site.NotBuilt at
unless_recursive ancestors (site.Attribute span) = site.Attribute span

-- the sites of a buffer, in the order of their visits
unfoldable pub buffer_sites : List MacroDecl → List Plugin → BufferSeen → List Site
buffer_sites macros plugins buffer = map (unless_recursive buffer.ancestors) (sites_of macros plugins buffer.file_scope buffer.outline)

-- where a site stands
abbrev pub offset_of : Site → ℕ
offset_of (site.Asks ask) = ask.macro_use.span.start
offset_of (site.Fault fault) = fault.at
offset_of (site.NotBuilt at) = at
offset_of (site.Attribute span) = span.start
