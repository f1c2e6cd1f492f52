-- The answer depends on the outcomes of what is asked alone.
use Rattle.std.proofs.Common.{◌≡◌, ◌∙◌, ap, ap₂, refl, ℕ, zero, suc, List, [], ◌∷◌, Option, Some, None, Ok, Err, Bool, ◌||◌, if◌then◌else◌}
use Rattle.std.specs.List.{Contains, list_any}
use Rattle.std.proofs.lemmas.List.Elements.{Contains-append_left, Contains-append_right}
use Rattle.swift_base.specs.declared.plugins.Plugin.{Plugin}
use Rattle.plugin_messages.specs.declared.message.Diagnostic.{Diagnostic}
use Rattle.plugin_messages.specs.declared.message.Outcome.{Outcome}
use Rattle.plugin_messages.specs.declared.message.Outcome.TheVariants as outcome
use Rattle.plugin_messages.specs.declared.request.Request.{Request}
use Rattle.macro_decls.specs.declared.table.MacroDecl.{MacroDecl}
use Rattle.result_reader.specs.Reading.{ReadingOutcome, reading_of}
use Rattle.expansion_model.specs.Answer.{answer_by, answer_of, are_too_many, by_messages}
use Rattle.expansion_model.specs.declared.answer.Answer.TheVariants as answer
use Rattle.expansion_model.specs.declared.answer.LimitKind.TheVariants as limit
use Rattle.expansion_model.specs.Buffers.{BufferSeen, key_of, reply_buffer}
use Rattle.expansion_model.specs.BufferSites.{buffer_sites}
use Rattle.expansion_model.specs.Laws.{AnswersByAskedAlone}
use Rattle.expansion_model.specs.Requests.{request_of}
use Rattle.expansion_model.specs.Table.{Look, is_missing, is_none}
use Rattle.expansion_model.specs.Visit.{Found, asks, by_outcome, by_reading, by_reply, given, joined, over, reading_for, room, spliced, visit, visit_to}
use Rattle.expansion_model.specs.declared.site.Ask.{Ask}
use Rattle.expansion_model.specs.declared.site.Site.{Site}
use Rattle.expansion_model.specs.declared.site.Site.TheVariants as site
use Rattle.expansion_model.proofs.Lists.{contains_first, contains_rest}

module _ (macros : List MacroDecl) (table other : Look) where
  -- the tables have the same outcomes of these requests
  abbrev AgreeOn : List Request → Type 0
  AgreeOn requests = (request : Request) → Contains requests request → table request.key ≡ other request.key

  module _ (inner other_inner : BufferSeen → Found) (same : (buffer : BufferSeen) → AgreeOn (inner buffer).asked → inner buffer ≡ other_inner buffer) (buffer : BufferSeen) where
    reading_same : (ask : Ask) (reply : List ℕ) (read : ReadingOutcome) → AgreeOn (by_reading inner buffer ask reply read).asked → by_reading inner buffer ask reply read ≡ by_reading other_inner buffer ask reply read
    reading_same ask reply (Err fault) agree = refl
    reading_same ask reply (Ok outline) agree = ap (spliced ask outline) (same (reply_buffer buffer ask outline) agree)

    reply_same : (ask : Ask) (reply : Option (List ℕ)) (diagnostics : List Diagnostic) → AgreeOn (by_reply inner macros buffer ask reply diagnostics).asked
        → by_reply inner macros buffer ask reply diagnostics ≡ by_reply other_inner macros buffer ask reply diagnostics
    reply_same ask None [] agree = refl
    reply_same ask (Some reply) [] agree = reading_same ask reply (reading_of (reading_for macros buffer ask) reply) agree
    reply_same ask None (diagnostic ∷ diagnostics) agree = refl
    reply_same ask (Some reply) (diagnostic ∷ diagnostics) agree = refl

    outcome_same : (ask : Ask) (known : Option Outcome) → AgreeOn (by_outcome inner macros buffer ask known).asked → by_outcome inner macros buffer ask known ≡ by_outcome other_inner macros buffer ask known
    outcome_same ask None agree = refl
    outcome_same ask (Some (outcome.Failed cause)) agree = refl
    outcome_same ask (Some (outcome.Reply reply diagnostics)) agree = reply_same ask reply diagnostics agree

    key_agrees : (ask : Ask) (behind : List Request) → AgreeOn (request_of buffer ask ∷ behind) → table (key_of buffer.key ask) ≡ other (key_of buffer.key ask)
    unfolding request_of
    key_agrees ask behind agree = agree (request_of buffer ask) (contains_first (request_of buffer ask) behind)

    given_same : (site : Site) → AgreeOn (given inner macros table buffer site).asked → given inner macros table buffer site ≡ given other_inner macros other buffer site
    given_same (site.Asks ask) agree =
        let known = table (key_of buffer.key ask) in
        let own = by_outcome inner macros buffer ask known in
        ap (joined (asks (request_of buffer ask)))
        (outcome_same ask known (λ request has. agree request (contains_rest (request_of buffer ask) own.asked request has))
        ∙ ap (by_outcome other_inner macros buffer ask) (key_agrees ask own.asked agree))
    given_same (site.Fault fault) agree = refl
    given_same (site.NotBuilt at) agree = refl
    given_same (site.Attribute span) agree = refl

    over_same : (sites : List Site) → AgreeOn (over (given inner macros table buffer) sites).asked → over (given inner macros table buffer) sites ≡ over (given other_inner macros other buffer) sites
    over_same [] agree = refl
    over_same (first ∷ others) agree =
        let one = (given inner macros table buffer first).asked in
        let rest = (over (given inner macros table buffer) others).asked in
        ap₂ joined (given_same first (λ request has. agree request (Contains-append_left one rest request has)))
        (over_same others (λ request has. agree request (Contains-append_right one rest request has)))

  lacks_same : (requests : List Request) → AgreeOn requests → list_any (is_missing table) requests ≡ list_any (is_missing other) requests
  lacks_same [] agree = refl
  lacks_same (request ∷ requests) agree =
      ap₂ (λ (one rest : Bool). one || rest) (ap is_none (agree request (contains_first request requests)))
      (lacks_same requests (λ later has. agree later (contains_rest request requests later has)))

  answer_same : (text : List ℕ) (found : Found) → AgreeOn found.asked → answer_by table text found ≡ answer_by other text found
  answer_same text found agree =
      ap (λ (lacks : Bool). if are_too_many found then answer.Limit limit.Requests else (if lacks then answer.Limit limit.Bytes else by_messages text found found.messages)) (lacks_same found.asked agree)

  module _ (plugins : List Plugin) where
    visit_same : (depth : ℕ) (buffer : BufferSeen) → AgreeOn (visit_to macros plugins table depth buffer).asked → visit_to macros plugins table depth buffer ≡ visit_to macros plugins other depth buffer
    unfolding visit_to
    visit_same zero buffer agree = refl
    visit_same (suc depth) buffer agree =
        over_same (visit_to macros plugins table depth) (visit_to macros plugins other depth) (visit_same depth) buffer (buffer_sites macros plugins buffer) agree

pub answers_alone : AnswersByAskedAlone
unfolding visit answer_of
answers_alone macros plugins table other source agree =
    let text = source.outline.text in
    let depth = suc (room macros source.ancestors) in
    answer_same macros table other text (visit_to macros plugins table depth source) agree
    ∙ ap (answer_by other text) (visit_same macros table other plugins depth source agree)
