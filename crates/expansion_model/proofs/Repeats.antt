-- The visit of a buffer is what its sites give, each reply being visited in the same way.
use Rattle.std.proofs.Common.{◌≡◌, ◌∙◌, ap, ap₂, refl, arith, ℕ, zero, suc, ◌<◌, List, [], ◌∷◌, Option, Some, None, Ok, Err}
use Rattle.std.specs.List.{AllByRecursion}
use Rattle.swift_base.specs.declared.plugins.Plugin.{Plugin}
use Rattle.plugin_messages.specs.declared.message.Diagnostic.{Diagnostic}
use Rattle.plugin_messages.specs.declared.message.Outcome.{Outcome}
use Rattle.plugin_messages.specs.declared.message.Outcome.TheVariants as outcome
use Rattle.macro_decls.specs.declared.table.MacroDecl.{MacroDecl}
use Rattle.result_reader.specs.Reading.{ReadingOutcome, reading_of}
use Rattle.expansion_model.specs.Buffers.{BufferSeen, key_of, reply_buffer}
use Rattle.expansion_model.specs.BufferSites.{buffer_sites}
use Rattle.expansion_model.specs.Laws.{VisitsRepeat}
use Rattle.expansion_model.specs.Requests.{request_of}
use Rattle.expansion_model.specs.Table.{Look}
use Rattle.expansion_model.specs.Visit.{Found, asks, by_outcome, by_reading, by_reply, given, joined, over, reading_for, room, spliced, visit, visit_to}
use Rattle.expansion_model.specs.declared.site.Ask.{Ask}
use Rattle.expansion_model.specs.declared.site.Site.{Site}
use Rattle.expansion_model.specs.declared.site.Site.TheVariants as site
use Rattle.expansion_model.proofs.Room.{LeavesLess, sites_leave}

module _ (macros : List MacroDecl) (table : Look) (buffer : BufferSeen) (inner other : BufferSeen → Found)
    (same : (reply : BufferSeen) → room macros reply.ancestors < room macros buffer.ancestors → inner reply ≡ other reply) where
  reading_repeats : (ask : Ask) (reply : List ℕ) (read : ReadingOutcome) → LeavesLess macros buffer.ancestors (site.Asks ask) → by_reading inner buffer ask reply read ≡ by_reading other buffer ask reply read
  reading_repeats ask reply (Err fault) less = refl
  reading_repeats ask reply (Ok outline) less = ap (spliced ask outline) (same (reply_buffer buffer ask outline) less)

  reply_repeats : (ask : Ask) (reply : Option (List ℕ)) (diagnostics : List Diagnostic) → LeavesLess macros buffer.ancestors (site.Asks ask)
      → by_reply inner macros buffer ask reply diagnostics ≡ by_reply other macros buffer ask reply diagnostics
  reply_repeats ask None [] less = refl
  reply_repeats ask (Some reply) [] less = reading_repeats ask reply (reading_of (reading_for macros buffer ask) reply) less
  reply_repeats ask None (diagnostic ∷ diagnostics) less = refl
  reply_repeats ask (Some reply) (diagnostic ∷ diagnostics) less = refl

  outcome_repeats : (ask : Ask) (known : Option Outcome) → LeavesLess macros buffer.ancestors (site.Asks ask) → by_outcome inner macros buffer ask known ≡ by_outcome other macros buffer ask known
  outcome_repeats ask None less = refl
  outcome_repeats ask (Some (outcome.Failed cause)) less = refl
  outcome_repeats ask (Some (outcome.Reply reply diagnostics)) less = reply_repeats ask reply diagnostics less

  given_repeats : (site : Site) → LeavesLess macros buffer.ancestors site → given inner macros table buffer site ≡ given other macros table buffer site
  given_repeats (site.Asks ask) less = ap (joined (asks (request_of buffer ask))) (outcome_repeats ask (table (key_of buffer.key ask)) less)
  given_repeats (site.Fault fault) less = refl
  given_repeats (site.NotBuilt at) less = refl
  given_repeats (site.Attribute span) less = refl

  over_repeats : (sites : List Site) → AllByRecursion (LeavesLess macros buffer.ancestors) sites → over (given inner macros table buffer) sites ≡ over (given other macros table buffer) sites
  over_repeats [] each = refl
  over_repeats (first ∷ others) each = ap₂ joined (given_repeats first each.0) (over_repeats others each.1)

module _ (macros : List MacroDecl) (plugins : List Plugin) (table : Look) where
  -- more levels than the room find nothing more
  deeper_same : (depth other : ℕ) (buffer : BufferSeen) → room macros buffer.ancestors < depth → room macros buffer.ancestors < other → visit_to macros plugins table depth buffer ≡ visit_to macros plugins table other buffer
  unfolding visit_to
  deeper_same zero other buffer deep also = absurd (omega arith)
  deeper_same (suc depth) zero buffer deep also = absurd (omega arith)
  deeper_same (suc depth) (suc other) buffer deep also =
      over_repeats macros table buffer (visit_to macros plugins table depth) (visit_to macros plugins table other)
      (λ reply less. deeper_same depth other reply (omega (arith, less, deep)) (omega (arith, less, also)))
      (buffer_sites macros plugins buffer) (sites_leave macros plugins buffer)

  deep_is_visit : (depth : ℕ) (buffer : BufferSeen) → room macros buffer.ancestors < depth → visit_to macros plugins table depth buffer ≡ visit macros plugins table buffer
  unfolding visit
  deep_is_visit depth buffer deep = deeper_same depth (suc (room macros buffer.ancestors)) buffer deep (omega arith)

  visit_begins : (buffer : BufferSeen) → visit macros plugins table buffer ≡ over (given (visit_to macros plugins table (room macros buffer.ancestors)) macros table buffer) (buffer_sites macros plugins buffer)
  unfolding visit visit_to
  visit_begins buffer = refl

  visit_repeats : (buffer : BufferSeen) → visit macros plugins table buffer ≡ over (given (visit macros plugins table) macros table buffer) (buffer_sites macros plugins buffer)
  visit_repeats buffer =
      visit_begins buffer
      ∙ over_repeats macros table buffer (visit_to macros plugins table (room macros buffer.ancestors)) (visit macros plugins table)
      (λ reply less. deep_is_visit (room macros buffer.ancestors) reply less) (buffer_sites macros plugins buffer) (sites_leave macros plugins buffer)

pub repeats : VisitsRepeat
repeats macros plugins table buffer = visit_repeats macros plugins table buffer
