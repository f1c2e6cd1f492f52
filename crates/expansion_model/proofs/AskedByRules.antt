-- What the visit asks is what the rules ask.
use Rattle.std.proofs.Common.{◌≡◌, refl, sym, subst, ℕ, zero, suc, inl, inr, List, [], ◌∷◌, Option, Some, None, Ok, Err}
use Rattle.std.specs.List.{Contains}
use Rattle.std.proofs.lemmas.List.Elements.{Contains-append_cases, Contains-append_left, Contains-append_right}
use Rattle.swift_base.specs.declared.plugins.Plugin.{Plugin}
use Rattle.swift_tree.specs.Outlines.{OutlineSeen}
use Rattle.plugin_messages.specs.declared.message.Diagnostic.{Diagnostic}
use Rattle.plugin_messages.specs.declared.message.Outcome.{Outcome}
use Rattle.plugin_messages.specs.declared.message.Outcome.TheVariants as outcome
use Rattle.plugin_messages.specs.declared.request.Request.{Request}
use Rattle.macro_decls.specs.declared.table.MacroDecl.{MacroDecl}
use Rattle.result_reader.specs.Reading.{ReadingOutcome, reading_of}
use Rattle.expansion_model.specs.Buffers.{BufferSeen, key_of, reply_buffer}
use Rattle.expansion_model.specs.BufferSites.{buffer_sites}
use Rattle.expansion_model.specs.Laws.{AskedByRules, RulesAreAsked}
use Rattle.expansion_model.specs.Reached.{IsReached, begins, replied, IsAsked}
use Rattle.expansion_model.specs.Requests.{request_of}
use Rattle.expansion_model.specs.Table.{Look}
use Rattle.expansion_model.specs.Visit.{Found, by_outcome, by_reading, by_reply, given, over, reading_for, room, visit, visit_to}
use Rattle.expansion_model.specs.declared.site.Ask.{Ask}
use Rattle.expansion_model.specs.declared.site.Site.{Site}
use Rattle.expansion_model.specs.declared.site.Site.TheVariants as site
use Rattle.expansion_model.proofs.Lists.{contains_cases, contains_first, contains_none, contains_rest}
use Rattle.expansion_model.proofs.Repeats.{repeats}

module _ (macros : List MacroDecl) (plugins : List Plugin) (table : Look) (source : BufferSeen) (request : Request) where
  abbrev Reaches : BufferSeen → Type 0
  Reaches buffer = IsReached macros plugins table source buffer

  abbrev Asked : Type 0
  Asked = IsAsked macros plugins table source request

  module _ (inner : BufferSeen → Found) (asked_in : (buffer : BufferSeen) → Reaches buffer → Contains (inner buffer).asked request → Asked) (buffer : BufferSeen) (reached : Reaches buffer) where
    abbrev Stands : Ask → Type 0
    Stands ask = Contains (buffer_sites macros plugins buffer) (site.Asks ask)

    reading_asks : (ask : Ask) (reply : List ℕ) (read : ReadingOutcome) → Stands ask → table (key_of buffer.key ask) ≡ Some (outcome.Reply (Some reply) []) → reading_of (reading_for macros buffer ask) reply ≡ read
        → Contains (by_reading inner buffer ask reply read).asked request → Asked
    reading_asks ask reply (Err fault) stands is reads has = contains_none request has
    reading_asks ask reply (Ok outline) stands is reads has = asked_in (reply_buffer buffer ask outline) (replied buffer ask reply outline reached stands is reads) has

    reply_asks : (ask : Ask) (reply : Option (List ℕ)) (diagnostics : List Diagnostic) → Stands ask → table (key_of buffer.key ask) ≡ Some (outcome.Reply reply diagnostics)
        → Contains (by_reply inner macros buffer ask reply diagnostics).asked request → Asked
    reply_asks ask None [] stands is has = contains_none request has
    reply_asks ask (Some reply) [] stands is has = reading_asks ask reply (reading_of (reading_for macros buffer ask) reply) stands is refl has
    reply_asks ask None (diagnostic ∷ diagnostics) stands is has = contains_none request has
    reply_asks ask (Some reply) (diagnostic ∷ diagnostics) stands is has = contains_none request has

    outcome_asks : (ask : Ask) (known : Option Outcome) → Stands ask → table (key_of buffer.key ask) ≡ known → Contains (by_outcome inner macros buffer ask known).asked request → Asked
    outcome_asks ask None stands is has = contains_none request has
    outcome_asks ask (Some (outcome.Failed cause)) stands is has = contains_none request has
    outcome_asks ask (Some (outcome.Reply reply diagnostics)) stands is has = reply_asks ask reply diagnostics stands is has

    given_asks : (site : Site) → Contains (buffer_sites macros plugins buffer) site → Contains (given inner macros table buffer site).asked request → Asked
    given_asks (site.Asks ask) stands has =
        let known = table (key_of buffer.key ask) in
        elim (contains_cases (request_of buffer ask) (by_outcome inner macros buffer ask known).asked request has) [
          | inl same ↦ record { buffer = buffer; reached = reached; ask = ask; stands = stands; is = sym same }
          | inr later ↦ outcome_asks ask known stands refl later
        ]
    given_asks (site.Fault fault) stands has = contains_none request has
    given_asks (site.NotBuilt at) stands has = contains_none request has
    given_asks (site.Attribute span) stands has = contains_none request has

    over_asks : (sites : List Site) → ((site : Site) → Contains sites site → Contains (buffer_sites macros plugins buffer) site) → Contains (over (given inner macros table buffer) sites).asked request → Asked
    over_asks [] within has = contains_none request has
    over_asks (first ∷ others) within has =
        elim (Contains-append_cases (given inner macros table buffer first).asked (over (given inner macros table buffer) others).asked request has) [
          | inl here ↦ given_asks first (within first (contains_first first others)) here
          | inr later ↦ over_asks others (λ site in_others. within site (contains_rest first others site in_others)) later
        ]

  visit_asks : (depth : ℕ) (buffer : BufferSeen) → Reaches buffer → Contains (visit_to macros plugins table depth buffer).asked request → Asked
  unfolding visit_to
  visit_asks zero buffer reached has = contains_none request has
  visit_asks (suc depth) buffer reached has =
      over_asks (visit_to macros plugins table depth) (visit_asks depth) buffer reached (buffer_sites macros plugins buffer) (λ site stands. stands) has

pub asked_by_rules : AskedByRules
unfolding visit
asked_by_rules macros plugins table source request has = visit_asks macros plugins table source request (suc (room macros source.ancestors)) source begins has

-- what one of the sites gives is found
over_has : (give : Site → Found) (sites : List Site) (site : Site) (request : Request) → Contains sites site → Contains (give site).asked request → Contains (over give sites).asked request
over_has give [] site request stands has = contains_none site stands
over_has give (first ∷ others) site request stands has =
    let one = (give first).asked in
    let rest = (over give others).asked in
    elim (contains_cases first others site stands) [
      | inl same ↦ Contains-append_left one rest request (subst (λ (own : Site). Contains (give own).asked request) (sym same) has)
      | inr later ↦ Contains-append_right one rest request (over_has give others site request later has)
    ]

module _ (macros : List MacroDecl) (plugins : List Plugin) (table : Look) where
  abbrev asks_in : BufferSeen → List Request
  asks_in buffer = (visit macros plugins table buffer).asked

  site_has : (buffer : BufferSeen) (site : Site) (request : Request) → Contains (buffer_sites macros plugins buffer) site
      → Contains (given (visit macros plugins table) macros table buffer site).asked request → Contains (asks_in buffer) request
  site_has buffer site request stands has =
      subst (λ (found : Found). Contains found.asked request) (sym (repeats macros plugins table buffer))
      (over_has (given (visit macros plugins table) macros table buffer) (buffer_sites macros plugins buffer) site request stands has)

  -- what is asked in a reply's buffer is asked in that of its use
  reply_has : (buffer : BufferSeen) (ask : Ask) (reply : List ℕ) (outline : OutlineSeen) (request : Request) → Contains (buffer_sites macros plugins buffer) (site.Asks ask)
      → table (key_of buffer.key ask) ≡ Some (outcome.Reply (Some reply) []) → reading_of (reading_for macros buffer ask) reply ≡ Ok outline → Contains (asks_in (reply_buffer buffer ask outline)) request
      → Contains (asks_in buffer) request
  reply_has buffer ask reply outline request stands is reads has =
      let inner = visit macros plugins table in
      let read = subst (λ (r : ReadingOutcome). Contains (by_reading inner buffer ask reply r).asked request) (sym reads) has in
      let known = subst (λ (o : Option Outcome). Contains (by_outcome inner macros buffer ask o).asked request) (sym is) read in
      site_has buffer (site.Asks ask) request stands
      (contains_rest (request_of buffer ask) (by_outcome inner macros buffer ask (table (key_of buffer.key ask))).asked request known)

  module _ (source : BufferSeen) (request : Request) where
    reached_has : (buffer : BufferSeen) → IsReached macros plugins table source buffer → Contains (asks_in buffer) request → Contains (asks_in source) request
    reached_has buffer begins has = has
    reached_has buffer (replied before ask reply outline reached stands is reads) has = reached_has before reached (reply_has before ask reply outline request stands is reads has)

pub rules_asked : RulesAreAsked
rules_asked macros plugins table source request asked =
    let buffer = asked.buffer in
    let own = request_of buffer asked.ask in
    let known = by_outcome (visit macros plugins table) macros buffer asked.ask (table (key_of buffer.key asked.ask)) in
    reached_has macros plugins table source request buffer asked.reached
    (site_has macros plugins table buffer (site.Asks asked.ask) request asked.stands (subst (Contains (own ∷ known.asked)) (sym asked.is) (contains_first own known.asked)))
