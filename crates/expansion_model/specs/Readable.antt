-- The texts that a plug-in is given: this project's own words.
use Rattle.std.specs.Prelude.{ℕ, List, All}
use Rattle.std.specs.Str.{IsUtf8}
use Rattle.swift_base.specs.declared.plugins.Plugin.{Plugin}
use Rattle.macro_decls.specs.declared.table.MacroDecl.{MacroDecl}
use Rattle.macro_decls.specs.Macros.{IsDeclReadable}
use Rattle.expansion_model.specs.Buffers.{BufferSeen, IsSound}
use Rattle.expansion_model.specs.BufferSites.{buffer_sites}
use Rattle.expansion_model.specs.Macros.{text_at}
use Rattle.expansion_model.specs.declared.site.Ask.{Ask}
use Rattle.expansion_model.specs.declared.site.Site.{Site}
use Rattle.expansion_model.specs.declared.site.Site.TheVariants as site

-- the texts of a request are UTF-8
pub record IsAskReadable (text : List ℕ) (ask : Ask) : Type 0 where
  pub span : IsUtf8 (text_at text ask.macro_use.span)
  pub name : IsUtf8 ask.target.name
  pub module_name : IsUtf8 ask.target.module
  pub type_name : IsUtf8 ask.target.type_name

abbrev pub IsSiteReadable : List ℕ → Site → Type 0
IsSiteReadable text (site.Asks ask) = IsAskReadable text ask
IsSiteReadable text (site.Fault fault) = Unit {0}
IsSiteReadable text (site.NotBuilt at) = Unit {0}
IsSiteReadable text (site.Attribute span) = Unit {0}

-- the texts of what is asked in a buffer are UTF-8, where its outline is that of its text
abbrev pub AsksAreReadable : Type 0
AsksAreReadable = (macros : List MacroDecl) (plugins : List Plugin) (buffer : BufferSeen) → IsSound buffer → All IsDeclReadable macros
    → All (IsSiteReadable buffer.outline.text) (buffer_sites macros plugins buffer)
