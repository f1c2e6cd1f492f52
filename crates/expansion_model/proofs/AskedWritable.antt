-- What is asked can be written as a message.
use Rattle.std.proofs.Common.{◌≡◌, refl, sym, ℕ, zero, suc, List, [], ◌∷◌, Option, Some, None, Ok, Err}
use Rattle.std.specs.List.{All}
use Rattle.std.proofs.lemmas.List.Elements.{All-nil, All-cons, All-append, All-head, All-tail}
use Rattle.swift_base.specs.declared.plugins.Plugin.{Plugin}
use Rattle.plugin_messages.specs.declared.message.Diagnostic.{Diagnostic}
use Rattle.plugin_messages.specs.declared.message.Outcome.{Outcome}
use Rattle.plugin_messages.specs.declared.message.Outcome.TheVariants as outcome
use Rattle.plugin_messages.specs.Writable.{IsLocationWritable, IsSyntaxWritable, IsRequestWritable}
use Rattle.macro_decls.specs.declared.table.MacroDecl.{MacroDecl}
use Rattle.macro_decls.specs.Macros.{IsDeclReadable}
use Rattle.result_reader.specs.Reading.{ReadingOutcome, reading_of}
use Rattle.expansion_model.specs.Buffers.{BufferSeen, IsSound, key_of, reply_buffer}
use Rattle.expansion_model.specs.BufferSites.{buffer_sites}
use Rattle.expansion_model.specs.Laws.{RequestsAreWritable}
use Rattle.expansion_model.specs.Readable.{IsAskReadable, IsSiteReadable}
use Rattle.expansion_model.specs.Requests.{file_id, location_of, place_of, request_of, syntax_of}
use Rattle.expansion_model.specs.Table.{Look}
use Rattle.expansion_model.specs.Visit.{Found, by_outcome, by_reading, by_reply, given, joined, over, reading_for, room, visit, visit_to}
use Rattle.expansion_model.specs.declared.place.Place.{Place}
use Rattle.expansion_model.specs.declared.site.Ask.{Ask}
use Rattle.expansion_model.specs.declared.site.Site.{Site}
use Rattle.expansion_model.specs.declared.site.Site.TheVariants as site
use Rattle.expansion_model.proofs.Lossy.{lossy_is_utf8}
use Rattle.expansion_model.proofs.Replies.{reply_is_sound}
use Rattle.expansion_model.proofs.SitesReadable.{sites_readable}

location_writable : (name : List ℕ) (place : Place) → IsLocationWritable (location_of name place)
unfolding location_of
location_writable name place = record { file_id = lossy_is_utf8 (file_id name); file_name = lossy_is_utf8 name }

syntax_writable : (buffer : BufferSeen) (ask : Ask) → IsAskReadable buffer.outline.text ask → IsSyntaxWritable (syntax_of buffer ask)
unfolding syntax_of
syntax_writable buffer ask readable = record { source = readable.span; location = location_writable buffer.name (place_of buffer.outline.text ask.macro_use.span.start) }

request_writable : (buffer : BufferSeen) (ask : Ask) → IsAskReadable buffer.outline.text ask → IsRequestWritable (request_of buffer ask)
unfolding request_of
request_writable buffer ask readable = record {
  target = record { module_name = readable.module_name; type_name = readable.type_name; name = readable.name };
  parts = syntax_writable buffer ask readable;
}

abbrev AreWritable : Found → Type 0
AreWritable found = All IsRequestWritable found.asked

joined_writable : (one other : Found) → AreWritable one → AreWritable other → AreWritable (joined one other)
joined_writable one other first second = All-append IsRequestWritable one.asked other.asked first second

module _ (macros : List MacroDecl) (inner : BufferSeen → Found) (each : (buffer : BufferSeen) → IsSound buffer → AreWritable (inner buffer)) (buffer : BufferSeen) where
  none_writable : All IsRequestWritable []
  none_writable = All-nil IsRequestWritable

  reading_writable : (ask : Ask) (reply : List ℕ) (read : ReadingOutcome) → read ≡ reading_of (reading_for macros buffer ask) reply → AreWritable (by_reading inner buffer ask reply read)
  reading_writable ask reply (Err fault) is = none_writable
  reading_writable ask reply (Ok outline) is = each (reply_buffer buffer ask outline) (reply_is_sound macros buffer ask reply outline (sym is))

  reply_writable : (ask : Ask) (reply : Option (List ℕ)) (diagnostics : List Diagnostic) → AreWritable (by_reply inner macros buffer ask reply diagnostics)
  reply_writable ask None [] = none_writable
  reply_writable ask (Some reply) [] = reading_writable ask reply (reading_of (reading_for macros buffer ask) reply) refl
  reply_writable ask None (diagnostic ∷ diagnostics) = none_writable
  reply_writable ask (Some reply) (diagnostic ∷ diagnostics) = none_writable

  outcome_writable : (ask : Ask) (known : Option Outcome) → AreWritable (by_outcome inner macros buffer ask known)
  outcome_writable ask None = none_writable
  outcome_writable ask (Some (outcome.Failed cause)) = none_writable
  outcome_writable ask (Some (outcome.Reply reply diagnostics)) = reply_writable ask reply diagnostics

  module _ (table : Look) where
    given_writable : (site : Site) → IsSiteReadable buffer.outline.text site → AreWritable (given inner macros table buffer site)
    given_writable (site.Asks ask) readable =
        All-cons IsRequestWritable (request_of buffer ask) (by_outcome inner macros buffer ask (table (key_of buffer.key ask))).asked (request_writable buffer ask readable) (outcome_writable ask (table (key_of buffer.key ask)))
    given_writable (site.Fault fault) readable = none_writable
    given_writable (site.NotBuilt at) readable = none_writable
    given_writable (site.Attribute span) readable = none_writable

    over_writable : (sites : List Site) → All (IsSiteReadable buffer.outline.text) sites → AreWritable (over (given inner macros table buffer) sites)
    over_writable [] readable = none_writable
    over_writable (first ∷ others) readable =
        let P : Site → Type 0 = IsSiteReadable buffer.outline.text in
        joined_writable (given inner macros table buffer first) (over (given inner macros table buffer) others)
        (given_writable first (All-head P first others readable)) (over_writable others (All-tail P first others readable))

visit_writable : (macros : List MacroDecl) (plugins : List Plugin) (table : Look) → All IsDeclReadable macros → (depth : ℕ) (buffer : BufferSeen) → IsSound buffer
    → AreWritable (visit_to macros plugins table depth buffer)
unfolding visit_to
visit_writable macros plugins table names zero buffer sound = All-nil IsRequestWritable
visit_writable macros plugins table names (suc depth) buffer sound =
    over_writable macros (visit_to macros plugins table depth) (visit_writable macros plugins table names depth) buffer table (buffer_sites macros plugins buffer) (sites_readable macros plugins buffer sound names)

pub asked_writable : RequestsAreWritable
unfolding visit
asked_writable macros plugins table source sound names = visit_writable macros plugins table names (suc (room macros source.ancestors)) source sound
