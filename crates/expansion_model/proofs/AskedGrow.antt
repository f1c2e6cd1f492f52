-- What is asked stays asked when outcomes are added.
use Rattle.std.proofs.Common.{◌≡◌, refl, sym, subst, ℕ, zero, suc, List, [], ◌∷◌, Option, Some, None, Ok, Err}
use Rattle.std.specs.List.{Contains}
use Rattle.swift_base.specs.declared.plugins.Plugin.{Plugin}
use Rattle.plugin_messages.specs.declared.message.Diagnostic.{Diagnostic}
use Rattle.plugin_messages.specs.declared.message.Outcome.{Outcome}
use Rattle.plugin_messages.specs.declared.message.Outcome.TheVariants as outcome
use Rattle.plugin_messages.specs.declared.request.Request.{Request}
use Rattle.macro_decls.specs.declared.table.MacroDecl.{MacroDecl}
use Rattle.result_reader.specs.Reading.{ReadingOutcome, reading_of}
use Rattle.expansion_model.specs.Buffers.{BufferSeen, key_of, reply_buffer}
use Rattle.expansion_model.specs.BufferSites.{buffer_sites}
use Rattle.expansion_model.specs.Laws.{AskedRequestsGrow}
use Rattle.expansion_model.specs.Requests.{request_of}
use Rattle.expansion_model.specs.Table.{Look, IsWithin}
use Rattle.expansion_model.specs.Visit.{Found, by_outcome, by_reading, by_reply, given, joined, over, reading_for, room, visit, visit_to}
use Rattle.expansion_model.specs.declared.site.Ask.{Ask}
use Rattle.expansion_model.specs.declared.site.Site.{Site}
use Rattle.expansion_model.specs.declared.site.Site.TheVariants as site
use Rattle.expansion_model.proofs.Lists.{contains_none, contains_joined}

module _ (macros : List MacroDecl) (request : Request) where
  -- what the first found to be asked, the second did too
  abbrev Grows : Found → Found → Type 0
  Grows found more = Contains found.asked request → Contains more.asked request

  joined_grows : (one other first second : Found) → Grows one first → Grows other second → Grows (joined one other) (joined first second)
  joined_grows one other first second = contains_joined request one.asked other.asked first.asked second.asked

  module _ (inner wider_inner : BufferSeen → Found) (grows : (buffer : BufferSeen) → Grows (inner buffer) (wider_inner buffer)) (buffer : BufferSeen) where
    reading_grows : (ask : Ask) (reply : List ℕ) (read : ReadingOutcome) → Grows (by_reading inner buffer ask reply read) (by_reading wider_inner buffer ask reply read)
    reading_grows ask reply (Err fault) has = has
    reading_grows ask reply (Ok outline) has = grows (reply_buffer buffer ask outline) has

    reply_grows : (ask : Ask) (reply : Option (List ℕ)) (diagnostics : List Diagnostic) → Grows (by_reply inner macros buffer ask reply diagnostics) (by_reply wider_inner macros buffer ask reply diagnostics)
    reply_grows ask None [] has = has
    reply_grows ask (Some reply) [] has = reading_grows ask reply (reading_of (reading_for macros buffer ask) reply) has
    reply_grows ask None (diagnostic ∷ diagnostics) has = has
    reply_grows ask (Some reply) (diagnostic ∷ diagnostics) has = has

    known_grows : (ask : Ask) (known : Outcome) → Grows (by_outcome inner macros buffer ask (Some known)) (by_outcome wider_inner macros buffer ask (Some known))
    known_grows ask (outcome.Failed cause) has = has
    known_grows ask (outcome.Reply reply diagnostics) has = reply_grows ask reply diagnostics has

    outcome_grows : (ask : Ask) (known also : Option Outcome) → ((one : Outcome) → known ≡ Some one → also ≡ Some one) → Grows (by_outcome inner macros buffer ask known) (by_outcome wider_inner macros buffer ask also)
    outcome_grows ask None also within has = contains_none request has
    outcome_grows ask (Some one) also within has =
        subst (λ (o : Option Outcome). Contains (by_outcome wider_inner macros buffer ask o).asked request) (sym (within one refl)) (known_grows ask one has)

    module _ (table wider : Look) (within : IsWithin table wider) where
      given_grows : (site : Site) → Grows (given inner macros table buffer site) (given wider_inner macros wider buffer site)
      given_grows (site.Asks ask) has =
          let key = key_of buffer.key ask in
          let known = by_outcome inner macros buffer ask (table key) in
          let also = by_outcome wider_inner macros buffer ask (wider key) in
          contains_joined request (request_of buffer ask ∷ []) known.asked (request_of buffer ask ∷ []) also.asked (λ has. has) (outcome_grows ask (table key) (wider key) (within key)) has
      given_grows (site.Fault fault) has = has
      given_grows (site.NotBuilt at) has = has
      given_grows (site.Attribute span) has = has

      over_grows : (sites : List Site) → Grows (over (given inner macros table buffer) sites) (over (given wider_inner macros wider buffer) sites)
      over_grows [] has = has
      over_grows (first ∷ others) has =
          joined_grows (given inner macros table buffer first) (over (given inner macros table buffer) others) (given wider_inner macros wider buffer first) (over (given wider_inner macros wider buffer) others)
          (given_grows first) (over_grows others) has

visit_grows : (macros : List MacroDecl) (plugins : List Plugin) (table wider : Look) (request : Request) → IsWithin table wider → (depth : ℕ) (buffer : BufferSeen)
    → Contains (visit_to macros plugins table depth buffer).asked request → Contains (visit_to macros plugins wider depth buffer).asked request
unfolding visit_to
visit_grows macros plugins table wider request within zero buffer has = has
visit_grows macros plugins table wider request within (suc depth) buffer has =
    over_grows macros request (visit_to macros plugins table depth) (visit_to macros plugins wider depth) (visit_grows macros plugins table wider request within depth) buffer table wider within (buffer_sites macros plugins buffer) has

pub asked_grow : AskedRequestsGrow
unfolding visit
asked_grow macros plugins table wider buffer request within has = visit_grows macros plugins table wider request within (suc (room macros buffer.ancestors)) buffer has
