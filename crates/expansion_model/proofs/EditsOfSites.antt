-- The edits of a source can be made, and replace what its sites do.
use Rattle.std.proofs.Common.{◌≡◌, ◌∙◌, ap, refl, sym, subst, arith, ℕ, ◌⊎◌, inl, inr, List, [], ◌∷◌, ◌++◌, length, map, Option, Some, None, Ok, Err, false}
use Rattle.std.specs.List.{AllByRecursion, list_any}
use Rattle.std.proofs.lemmas.List.Elements.{All-from_recursion, recursion_from_All}
use Rattle.std.proofs.lemmas.List.Folds.{list_any-append}
use Rattle.swift_base.specs.declared.place.Span.{Span}
use Rattle.plugin_messages.specs.declared.message.Diagnostic.{Diagnostic}
use Rattle.plugin_messages.specs.declared.message.Outcome.{Outcome}
use Rattle.plugin_messages.specs.declared.message.Outcome.TheVariants as outcome
use Rattle.decl_parser.specs.Nesting.{Apart, Between}
use Rattle.macro_decls.specs.declared.table.MacroDecl.{MacroDecl}
use Rattle.result_reader.specs.Reading.{ReadingOutcome, reading_of}
use Rattle.result_splice.specs.Edits.{AreApart, IsApart, LiesBetween}
use Rattle.result_splice.specs.declared.edit.Edit.{Edit}
use Rattle.expansion_model.specs.Buffers.{BufferSeen, key_of, reply_buffer}
use Rattle.expansion_model.specs.BufferSites.{buffer_sites}
use Rattle.expansion_model.specs.Laws.{EditsAreOfSites, EditsCanBeMade, replaced}
use Rattle.expansion_model.specs.Requests.{request_of}
use Rattle.expansion_model.specs.Spans.{spans_of, AreApart as SpansApart}
use Rattle.expansion_model.specs.Table.{Look, is_missing, is_none}
use Rattle.expansion_model.specs.Visit.{Found, by_outcome, by_reading, by_reply, edit_of, given, over, reading_for, room, visit, visit_to}
use Rattle.expansion_model.specs.declared.site.Ask.{Ask}
use Rattle.expansion_model.specs.declared.site.Site.{Site}
use Rattle.expansion_model.specs.declared.site.Site.TheVariants as site
use Rattle.expansion_model.proofs.Lists.{append_nothing, any_neither, map_append}
use Rattle.expansion_model.proofs.SitesApart.{sites_apart}

-- at most one edit, of the part
abbrev MayReplace : Span → List Edit → Type 0
MayReplace span edits = (edits ≡ []) ⊎ ((edit : Edit) × (edits ≡ edit ∷ []) × (replaced edit ≡ span))

abbrev Each : (Span → Type 0) → List Edit → Type 0
Each P edits = AllByRecursion (λ edit. P (replaced edit)) edits

abbrev Pairwise : List Edit → Type 0
Pairwise [] = Unit {0}
Pairwise (edit ∷ edits) = Each (Apart (replaced edit)) edits × Pairwise edits

each_first : (P : Span → Type 0) (span : Span) (edits others : List Edit) → MayReplace span edits → P span → Each P others → Each P (edits ++ others)
each_first P span edits others may holds each =
    elim may [
      | inl none_ ↦ subst (λ (own : List Edit). Each P (own ++ others)) (sym none_) each
      | inr one ↦ subst (λ (own : List Edit). Each P (own ++ others)) (sym one.1) (subst P (sym one.2) holds, each)
    ]

pairwise_first : (span : Span) (edits others : List Edit) → MayReplace span edits → Each (Apart span) others → Pairwise others → Pairwise (edits ++ others)
pairwise_first span edits others may apart each =
    elim may [
      | inl none_ ↦ subst (λ (own : List Edit). Pairwise (own ++ others)) (sym none_) each
      | inr one ↦ subst (λ (own : List Edit). Pairwise (own ++ others)) (sym one.1) (subst (λ (part : Span). Each (Apart part) others) (sym one.2) apart, each)
    ]

abbrev PairwiseSpans : List Span → Type 0
PairwiseSpans [] = Unit {0}
PairwiseSpans (span ∷ spans) = AllByRecursion (Apart span) spans × PairwiseSpans spans

pairwise_spans : (spans : List Span) → SpansApart spans → PairwiseSpans spans
pairwise_spans [] apart = tt
pairwise_spans (span ∷ spans) apart = (recursion_from_All (Apart span) spans apart.0, pairwise_spans spans apart.1)

edits_apart : (edits : List Edit) → Pairwise edits → AreApart edits
edits_apart [] apart = tt
edits_apart (edit ∷ edits) apart = (All-from_recursion (IsApart edit) edits apart.0, edits_apart edits apart.1)

edits_between : (size : ℕ) (edits : List Edit) → Each (Between 0 size) edits → AllByRecursion (LiesBetween 0 size) edits
edits_between size [] each = tt
edits_between size (edit ∷ edits) each = (record { begins = each.0.begins; forward = omega (arith, each.0.some); ends = each.0.ends }, edits_between size edits each.1)

module _ (macros : List MacroDecl) (inner : BufferSeen → Found) (buffer : BufferSeen) where
  reading_replaces : (ask : Ask) (reply : List ℕ) (read : ReadingOutcome) → MayReplace ask.macro_use.span (by_reading inner buffer ask reply read).edits
  reading_replaces ask reply (Err fault) = inl refl
  reading_replaces ask reply (Ok outline) = inr (edit_of ask outline (inner (reply_buffer buffer ask outline)).edits, refl, refl)

  reply_replaces : (ask : Ask) (reply : Option (List ℕ)) (diagnostics : List Diagnostic) → MayReplace ask.macro_use.span (by_reply inner macros buffer ask reply diagnostics).edits
  reply_replaces ask None [] = inl refl
  reply_replaces ask (Some reply) [] = reading_replaces ask reply (reading_of (reading_for macros buffer ask) reply)
  reply_replaces ask None (diagnostic ∷ diagnostics) = inl refl
  reply_replaces ask (Some reply) (diagnostic ∷ diagnostics) = inl refl

  outcome_replaces : (ask : Ask) (known : Option Outcome) → MayReplace ask.macro_use.span (by_outcome inner macros buffer ask known).edits
  outcome_replaces ask None = inl refl
  outcome_replaces ask (Some (outcome.Failed cause)) = inl refl
  outcome_replaces ask (Some (outcome.Reply reply diagnostics)) = reply_replaces ask reply diagnostics

  -- where nothing is said, the use is replaced
  reading_spans : (ask : Ask) (reply : List ℕ) (read : ReadingOutcome) → (by_reading inner buffer ask reply read).messages ≡ [] → map replaced (by_reading inner buffer ask reply read).edits ≡ ask.macro_use.span ∷ []
  reading_spans ask reply (Err fault) silent = cc
  reading_spans ask reply (Ok outline) silent = refl

  reply_spans : (ask : Ask) (reply : Option (List ℕ)) (diagnostics : List Diagnostic) → (by_reply inner macros buffer ask reply diagnostics).messages ≡ []
      → map replaced (by_reply inner macros buffer ask reply diagnostics).edits ≡ ask.macro_use.span ∷ []
  reply_spans ask None [] silent = cc
  reply_spans ask (Some reply) [] silent = reading_spans ask reply (reading_of (reading_for macros buffer ask) reply) silent
  reply_spans ask None (diagnostic ∷ diagnostics) silent = cc
  reply_spans ask (Some reply) (diagnostic ∷ diagnostics) silent = cc

  outcome_spans : (ask : Ask) (known : Option Outcome) → is_none known ≡ false → (by_outcome inner macros buffer ask known).messages ≡ []
      → map replaced (by_outcome inner macros buffer ask known).edits ≡ ask.macro_use.span ∷ []
  outcome_spans ask None some silent = cc
  outcome_spans ask (Some (outcome.Failed cause)) some silent = cc
  outcome_spans ask (Some (outcome.Reply reply diagnostics)) some silent = reply_spans ask reply diagnostics silent

  module _ (table : Look) where
    abbrev give : Site → Found
    give site = given inner macros table buffer site

    each_made : (P : Span → Type 0) (sites : List Site) → AllByRecursion P (spans_of sites) → Each P (over give sites).edits
    each_made P [] each = tt
    each_made P (site.Asks ask ∷ others) each =
        let known = table (key_of buffer.key ask) in
        each_first P ask.macro_use.span (by_outcome inner macros buffer ask known).edits (over give others).edits (outcome_replaces ask known) each.0 (each_made P others each.1)
    each_made P (site.Fault fault ∷ others) each = each_made P others each
    each_made P (site.NotBuilt at ∷ others) each = each_made P others each
    each_made P (site.Attribute span ∷ others) each = (each.0, each_made P others each.1)

    apart_made : (sites : List Site) → PairwiseSpans (spans_of sites) → Pairwise (over give sites).edits
    apart_made [] apart = tt
    apart_made (site.Asks ask ∷ others) apart =
        let known = table (key_of buffer.key ask) in
        pairwise_first ask.macro_use.span (by_outcome inner macros buffer ask known).edits (over give others).edits (outcome_replaces ask known)
        (each_made (Apart ask.macro_use.span) others apart.0) (apart_made others apart.1)
    apart_made (site.Fault fault ∷ others) apart = apart_made others apart
    apart_made (site.NotBuilt at ∷ others) apart = apart_made others apart
    apart_made (site.Attribute span ∷ others) apart = (each_made (Apart span) others apart.0, apart_made others apart.1)

    has_outcome : (ask : Ask) → is_missing table (request_of buffer ask) ≡ false → is_none (table (key_of buffer.key ask)) ≡ false
    unfolding request_of
    has_outcome ask is = is

    sites_spans : (sites : List Site) → list_any (is_missing table) (over give sites).asked ≡ false → (over give sites).messages ≡ [] → map replaced (over give sites).edits ≡ spans_of sites
    sites_spans [] some silent = refl
    sites_spans (site.Asks ask ∷ others) some silent =
        let own = by_outcome inner macros buffer ask (table (key_of buffer.key ask)) in
        let rest = over give others in
        let first = any_neither (is_missing table (request_of buffer ask)) (list_any (is_missing table) (own.asked ++ rest.asked)) some in
        let behind = any_neither (list_any (is_missing table) own.asked) (list_any (is_missing table) rest.asked) (sym (list_any-append (is_missing table) own.asked rest.asked) ∙ first.1) in
        let quiet = append_nothing own.messages rest.messages silent in
        map_append replaced own.edits rest.edits
        ∙ ap (λ (spans : List Span). spans ++ map replaced rest.edits) (outcome_spans ask (table (key_of buffer.key ask)) (has_outcome ask first.0) quiet.0)
        ∙ ap (λ (spans : List Span). ask.macro_use.span ∷ spans) (sites_spans others behind.1 quiet.1)
    sites_spans (site.Fault fault ∷ others) some silent = cc
    sites_spans (site.NotBuilt at ∷ others) some silent = cc
    sites_spans (site.Attribute span ∷ others) some silent = ap (λ (spans : List Span). span ∷ spans) (sites_spans others some silent)

pub edits_made : EditsCanBeMade
unfolding visit visit_to
edits_made macros plugins table source sound =
    let size = length source.outline.text in
    let sites = buffer_sites macros plugins source in
    let inner = visit_to macros plugins table (room macros source.ancestors) in
    let edits = (over (given inner macros table source) sites).edits in
    let lie = sites_apart macros plugins source sound in
    record {
      each = All-from_recursion (LiesBetween 0 size) edits (edits_between size edits (each_made macros inner source table (Between 0 size) sites (recursion_from_All (Between 0 size) (spans_of sites) lie.each)));
      apart = edits_apart edits (apart_made macros inner source table sites (pairwise_spans (spans_of sites) lie.apart));
    }

pub edits_are_of_sites : EditsAreOfSites
unfolding visit visit_to
edits_are_of_sites macros plugins table source some silent =
    sites_spans macros (visit_to macros plugins table (room macros source.ancestors)) source table (buffer_sites macros plugins source) some silent
