use Rattle.std.proofs.Common.{◌≡◌, ◌∙◌, refl, sym, ap, subst, rules, arith, ℕ, ◌+◌, Option, Some, List, ◌∷◌, drop}
use Rattle.std.specs.Option.{option_copied}
use Rattle.plugin_messages.specs.declared.message.Outcome.{Outcome}
use Rattle.std.specs.Prelude.{All, codes}
use Rattle.std.proofs.lemmas.List.{drop_all, drop_more}
use Rattle.result_reader.specs.Reading.{ReadingOutcome, reading_of}
use Rattle.element_marks.specs.Answers.{Refuses}
use Rattle.swift_base.specs.declared.refusal.Refusal.{Refusal}
use Rattle.result_reader.specs.declared.fault.ResultFault.{ResultFault}
use Rattle.result_reader.specs.declared.reading.Reading.{Reading}
use Rattle.result_splice.specs.declared.edit.Edit.{Edit}
use Rattle.expansion_model.specs.Buffers.{buffer_seen}
use Rattle.expansion_model.specs.BufferSites.{offset_of}
use Rattle.expansion_model.specs.Readable.{IsSiteReadable}
use Rattle.expansion_model.specs.Requests.{place_of}
use Rattle.expansion_model.specs.Table.{look}
use Rattle.expansion_model.specs.Visit.{Found, by_outcome, by_reading, by_reply, edit_from, given, over, refusal_in, visit_to}
use Rattle.expansion_model.specs.Visited.{an_edit, visited_of, visited_seen, with_more}
use Rattle.expansion_model.specs.declared.message.MessageText.TheVariants as says
use Rattle.expansion_model.specs.declared.site.Site.{Site}
use Rattle.expansion_model.proofs.Accepted.{sound_is_short}
use Rattle.expansion_model.proofs.NearReplies.{reading_is_near}
use Rattle.expansion_model.proofs.KeptOfVisits.{first_place, kept-asked, kept-missing, kept-message, kept-further, nothing-with_more, placed, reply-with, reply-without, with_more-nothing, visited-message, visited-edit}
use Rattle.expansion_model.proofs.visiting.+visiting.Goals as goal

pub put_ask-returns-in-Some : goal.put_ask-returns-in-Some
put_ask-returns-in-Some t c =
    kept-asked c.args.macros.now (look c.args.table.now) (visit_to c.args.macros.now c.args.plugins.now (look c.args.table.now) c.args.depth) (buffer_seen c.args.buffer.now) c.args.ask.now _ _ _ c.in-Some.outcome.now
    (ap (look c.args.table.now) (sym c.in_ok-key.ensures) ∙ sym c.get.ensures ∙ ap option_copied c.in-Some.is) c.in_ok-put_asked-in-Some.ensures c.in_ok-put_outcome-in-Some.ensures

pub put_ask-returns : goal.put_ask-returns
put_ask-returns t c =
    kept-missing c.args.macros.now (look c.args.table.now) (visit_to c.args.macros.now c.args.plugins.now (look c.args.table.now) c.args.depth) (buffer_seen c.args.buffer.now) c.args.ask.now _ _ _
    (ap (look c.args.table.now) (sym c.in_ok-key.ensures) ∙ sym c.get.ensures ∙ ap option_copied c.in-None.is) c.in_ok-request-in-None.ensures.request c.in_ok-put_missing-in-None.ensures

pub put_outcome-returns-in_ok-put_at_use-in-Failed : goal.put_outcome-returns-in_ok-put_at_use-in-Failed
put_outcome-returns-in_ok-put_at_use-in-Failed t c =
    let visit = visit_to c.args.macros.now c.args.plugins.now (look c.args.table.now) c.args.depth in
    subst (λ (o : Outcome). visited_seen c.put_at_use.new.visited ≡ with_more (visited_seen c.args.visited.now) (visited_of (look c.args.table.now) (by_outcome visit c.args.macros.now (buffer_seen c.args.buffer.now) c.args.ask.now (Some o))))
    (sym c.in-Failed.is)
    (kept-message (look c.args.table.now) (buffer_seen c.args.buffer.now) c.args.ask.now.macro_use.span.start c.args.place _ (says.NoReply c.args.ask.now.target.module) _ _ c.requires.place
    (ap says.NoReply c.in_ok-module_name-in-Failed.ensures.cases) c.in_ok-put_at_use-in-Failed.ensures)

pub put_replied-returns-in_ok-put_at_use-in-None : goal.put_replied-returns-in_ok-put_at_use-in-None
put_replied-returns-in_ok-put_at_use-in-None t c =
    let said = kept-message (look c.args.table.now) (buffer_seen c.args.buffer.now) c.args.ask.now.macro_use.span.start c.args.place _ (says.NoText c.args.ask.now.target.name) _ _ c.requires.place
    (ap says.NoText c.in_ok-macro_name-in-None.ensures.cases) c.in_ok-put_at_use-in-None.ensures in
    said ∙ ap (λ (f : Found). with_more (visited_seen c.args.visited.now) (visited_of (look c.args.table.now) f))
    (sym (reply-without (visit_to c.args.macros.now c.args.plugins.now (look c.args.table.now) c.args.depth) c.args.macros.now (buffer_seen c.args.buffer.now) c.args.ask.now c.args.diagnostics.now (omega (arith, c.if-diagnostics-gt0.false))))
    ∙ ap (λ (o : Option (List ℕ)). with_more (visited_seen c.args.visited.now) (visited_of (look c.args.table.now) (by_reply (visit_to c.args.macros.now c.args.plugins.now (look c.args.table.now) c.args.depth) c.args.macros.now (buffer_seen c.args.buffer.now) c.args.ask.now o c.args.diagnostics.now))) (sym (ap option_copied c.in-None.is))

pub put_replied-returns-then-diagnostics-gt0 : goal.put_replied-returns-then-diagnostics-gt0
put_replied-returns-then-diagnostics-gt0 t c =
    let said = kept-message (look c.args.table.now) (buffer_seen c.args.buffer.now) c.args.ask.now.macro_use.span.start c.args.place _ says.NotBuilt _ _ c.requires.place refl c.in_ok-put_at_use.ensures in
    said ∙ ap (λ (f : Found). with_more (visited_seen c.args.visited.now) (visited_of (look c.args.table.now) f))
    (sym (reply-with (visit_to c.args.macros.now c.args.plugins.now (look c.args.table.now) c.args.depth) c.args.macros.now (buffer_seen c.args.buffer.now) c.args.ask.now (option_copied c.args.text) c.args.diagnostics.now (omega (arith, c.if-diagnostics-gt0.true))))

pub put_reply-put_refusal-requires : goal.put_reply-put_refusal-requires
put_reply-put_refusal-requires t c =
    reading_is_near c.args.macros.now (buffer_seen c.args.buffer.now) c.args.ask.now c.args.reply.now c.in-Err-Fault.fault
    (ap (λ (r : Reading). reading_of r c.args.reply.now) (sym c.in_ok-reading.ensures) ∙ sym (subst (λ (r : Refusal ResultFault). Refuses r (λ (outcome : ReadingOutcome). outcome ≡ reading_of c.in_ok-reading.reading c.args.reply.now)) c.in-Err-Fault.field-0-is c.in-Err-Fault.ensures))

pub put_reply-returns : goal.put_reply-returns
put_reply-returns t c =
    let refused = ap (λ (r : Reading). reading_of r c.args.reply.now) (sym c.in_ok-reading.ensures) ∙ sym (subst (λ (r : Refusal ResultFault). Refuses r (λ (outcome : ReadingOutcome). outcome ≡ reading_of c.in_ok-reading.reading c.args.reply.now)) c.in-Err-Fault.field-0-is c.in-Err-Fault.ensures) in
    c.in_ok-put_refusal-in-Err-Fault.ensures
    ∙ ap (with_more (visited_seen c.args.visited.now)) (sym (visited-message (look c.args.table.now) (refusal_in (buffer_seen c.args.buffer.now) c.args.ask.now c.args.reply.now c.in-Err-Fault.fault)))
    ∙ ap (λ (o : ReadingOutcome). with_more (visited_seen c.args.visited.now) (visited_of (look c.args.table.now) (by_reading (visit_to c.args.macros.now c.args.plugins.now (look c.args.table.now) c.args.depth) (buffer_seen c.args.buffer.now) c.args.ask.now c.args.reply.now o))) (sym refused)

pub put_site-returns-in_ok-put_at_use-in-Fault : goal.put_site-returns-in_ok-put_at_use-in-Fault
put_site-returns-in_ok-put_at_use-in-Fault t c =
    let give = given (visit_to c.args.macros.now c.args.plugins.now (look c.args.table.now) c.args.depth) c.args.macros.now (look c.args.table.now) (buffer_seen c.args.buffer.now) in
    subst (λ (s : Site). visited_seen c.put_at_use.new.visited ≡ with_more (visited_seen c.args.visited.now) (visited_of (look c.args.table.now) (give s))) (sym c.in-Fault.is)
    (kept-message (look c.args.table.now) (buffer_seen c.args.buffer.now) c.in-Fault.fault.at c.args.place _ (says.Site c.in-Fault.fault.kind c.in-Fault.fault.name) _ _ (c.requires.place ∙ ap (λ (s : Site). place_of c.args.buffer.now.outline.text (offset_of s)) c.in-Fault.is)
    (ap (says.Site c.in-Fault.fault.kind) c.in_ok-name-in-Fault.ensures.cases) c.in_ok-put_at_use-in-Fault.ensures)

pub put_site-returns-in_ok-put_at_use-in-NotBuilt : goal.put_site-returns-in_ok-put_at_use-in-NotBuilt
put_site-returns-in_ok-put_at_use-in-NotBuilt t c =
    let give = given (visit_to c.args.macros.now c.args.plugins.now (look c.args.table.now) c.args.depth) c.args.macros.now (look c.args.table.now) (buffer_seen c.args.buffer.now) in
    subst (λ (s : Site). visited_seen c.put_at_use-in-NotBuilt.new.visited ≡ with_more (visited_seen c.args.visited.now) (visited_of (look c.args.table.now) (give s))) (sym c.in-NotBuilt.is)
    (kept-message (look c.args.table.now) (buffer_seen c.args.buffer.now) c.in-NotBuilt.field-0 c.args.place _ says.NotBuilt _ _
    (c.requires.place ∙ ap (λ (s : Site). place_of c.args.buffer.now.outline.text (offset_of s)) c.in-NotBuilt.is) refl c.in_ok-put_at_use-in-NotBuilt.ensures)

pub put_site-returns-in_ok-put_edit-in-Attribute : goal.put_site-returns-in_ok-put_edit-in-Attribute
put_site-returns-in_ok-put_edit-in-Attribute t c =
    let give = given (visit_to c.args.macros.now c.args.plugins.now (look c.args.table.now) c.args.depth) c.args.macros.now (look c.args.table.now) (buffer_seen c.args.buffer.now) in
    let span = c.in-Attribute.span in
    let own = edit_from span.start span.end (codes " ") in
    subst (λ (s : Site). visited_seen c.put_edit.new.visited ≡ with_more (visited_seen c.args.visited.now) (visited_of (look c.args.table.now) (give s))) (sym c.in-Attribute.is)
    (c.in_ok-put_edit-in-Attribute.ensures
    ∙ ap (λ (e : Edit). with_more (visited_seen c.args.visited.now) (an_edit e)) (c.edit_from.ensures ∙ ap (λ (b : List ℕ). edit_from span.start span.end b) c.in_ok-space-in-Attribute.ensures.items)
    ∙ ap (with_more (visited_seen c.args.visited.now)) (sym (visited-edit (look c.args.table.now) own)))

pub visit_sites-sites-init : goal.visit_sites-sites-init
visit_sites-sites-init t c =
    let give = given (visit_to c.args.macros.now c.args.plugins.now (look c.args.table.now) c.args.depth) c.args.macros.now (look c.args.table.now) (buffer_seen c.args.buffer.now) in
    (first_place c.args.buffer.now.outline.text, ap (λ s. with_more s (visited_of (look c.args.table.now) (over give c.args.sites.now))) (c.nothing_found-visited.ensures (look c.args.table.now)) ∙ nothing-with_more (look c.args.table.now) (over give c.args.sites.now))

pub visit_sites-sites-preserved : goal.visit_sites-sites-preserved
visit_sites-sites-preserved t c =
    let give = given (visit_to c.args.macros.now c.args.plugins.now (look c.args.table.now) c.args.depth) c.args.macros.now (look c.args.table.now) (buffer_seen c.args.buffer.now) in
    let further = drop_more c.args.sites.now c.sites.site-index c.site-item.result c.sites-test.true ∙ ap (λ (s : Site). s ∷ drop (c.sites.site-index + 1) c.args.sites.now) (sym c.site-item.is) in (
      placed c.args.buffer.now.outline.text c.place_from-place.result _ (c.place_from-place.ensures ∙ ap (λ (t : List ℕ). place_of t c.offset_of.result) c.bytes.ensures),
      kept-further (look c.args.table.now) give (visited_seen c.sites.visited) (visited_seen c.put_site.new.visited) c.site-item.result (drop (c.sites.site-index + 1) c.args.sites.now) _ c.in_ok-put_site.ensures
          (ap (λ (l : List Site). with_more (visited_seen c.sites.visited) (visited_of (look c.args.table.now) (over give l))) (sym further) ∙ c.sites.invariant.1),
    )

pub visit_sites-returns : goal.visit_sites-returns
visit_sites-returns t c =
    let give = given (visit_to c.args.macros.now c.args.plugins.now (look c.args.table.now) c.args.depth) c.args.macros.now (look c.args.table.now) (buffer_seen c.args.buffer.now) in
    sym (with_more-nothing (look c.args.table.now) (visited_seen c.sites.visited))
    ∙ ap (λ (l : List Site). with_more (visited_seen c.sites.visited) (visited_of (look c.args.table.now) (over give l))) (sym (drop_all c.sites.site-index c.args.sites.now c.sites-test.false))
    ∙ c.sites.invariant.1

pub visit_to-visit_sites-requires : goal.visit_to-visit_sites-requires
visit_to-visit_sites-requires t c = (
  search rules,
  (
    c.requires.readable,
    (
      subst (λ (l : List Site). All (IsSiteReadable c.args.buffer.now.outline.text) l) (sym c.deref.ensures.value) c.in_ok-sites.ensures.asked,
      omega (arith, sound_is_short (buffer_seen c.args.buffer.now) c.requires.sound),
    ),
  ),
)
