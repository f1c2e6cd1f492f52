-- The bytes of a source in whose place something else is put. This project's own.
use Rattle.std.specs.Prelude.{ℕ, List, [], ◌∷◌, length, All}
use Rattle.std.specs.List.{flat_map}
use Rattle.swift_base.specs.declared.place.Span.{Span}
use Rattle.swift_base.specs.declared.plugins.Plugin.{Plugin}
use Rattle.decl_parser.specs.Nesting.{Between, Apart}
use Rattle.macro_decls.specs.declared.table.MacroDecl.{MacroDecl}
use Rattle.expansion_model.specs.Buffers.{BufferSeen, IsSound}
use Rattle.expansion_model.specs.BufferSites.{buffer_sites}
use Rattle.expansion_model.specs.declared.site.Site.{Site}
use Rattle.expansion_model.specs.declared.site.Site.TheVariants as site

-- what is replaced at a site: the use that is asked, or the attribute
abbrev pub span_of : Site → List Span
span_of (site.Asks ask) = ask.macro_use.span ∷ []
span_of (site.Attribute span) = span ∷ []
span_of (site.Fault fault) = []
span_of (site.NotBuilt at) = []

abbrev pub spans_of : List Site → List Span
spans_of sites = flat_map span_of sites

-- each ends before any other behind it in the list begins, or begins behind its end
abbrev pub AreApart : List Span → Type 0
AreApart [] = Unit {0}
AreApart (span ∷ spans) = All (Apart span) spans × AreApart spans

-- the parts hold a byte each, lie between the two places, and are apart
pub record LieApart (from to : ℕ) (spans : List Span) : Type 0 where
  pub each : All (Between from to) spans
  pub apart : AreApart spans

-- what is replaced in a buffer lies in its text, and apart, where its outline is that of the text
abbrev pub SitesLieApart : Type 0
SitesLieApart = (macros : List MacroDecl) (plugins : List Plugin) (buffer : BufferSeen) → IsSound buffer
    → LieApart 0 (length buffer.outline.text) (spans_of (buffer_sites macros plugins buffer))
