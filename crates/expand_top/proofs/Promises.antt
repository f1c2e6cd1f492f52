-- The promises of a run, from what one run does.
use Rattle.std.proofs.Common.{◌≡◌, ◌⊎◌, inl, inr, ℕ, zero, suc, ◌<◌, ◌||◌, Bool, true, false, if◌then◌else◌, Option, Some, None, Result, Ok, Err, List, [], ◌∷◌, ◌++◌, map, refl, sym, ap, ap₂, ◌∙◌, subst, arith}
use Rattle.std.specs.Prelude.{All}
use Rattle.std.specs.List.{Contains, list_any}
use Rattle.std.proofs.lemmas.List.{map-append}
use Rattle.std.proofs.lemmas.List.Elements.{All-cons, All-contains, All-head, All-nil, All-tail, Contains-append_cases, Contains-append_left}
use Rattle.swift_base.specs.Told.{then_bytes, Rose}
use Rattle.swift_base.specs.Outside.{SinkSeen, FilesSeen, StarterSeen}
use Rattle.swift_base.specs.declared.place.Span.{Span}
use Rattle.swift_base.specs.declared.plugins.Plugin.{Plugin}
use Rattle.swift_tree.specs.declared.outline.Shape.TheVariants.{File}
use Rattle.swift_tree.specs.Outlines.{OutlineSeen}
use Rattle.decl_parser.specs.Outline.{IsOutline, OutlineOutcome, outline}
use Rattle.decl_parser.proofs.Accepting.{outline_keeps_the_text}
use Rattle.plugin_messages.specs.declared.request.Request.{Request}
use Rattle.macro_decls.specs.Macros.{macros}
use Rattle.macro_decls.specs.declared.fault.MacroFault.{MacroFault}
use Rattle.macro_decls.specs.declared.table.MacroDecl.{MacroDecl}
use Rattle.expansion_model.specs.Answer.{answer_of, are_too_many, by_messages, lacks_outcome}
use Rattle.expansion_model.specs.Buffers.{BufferSeen, IsSound, source_buffer}
use Rattle.expansion_model.specs.BufferSites.{buffer_sites}
use Rattle.expansion_model.specs.Laws.{replaced}
use Rattle.expansion_model.specs.Spans.{spans_of}
use Rattle.expansion_model.specs.Table.{is_missing, is_none}
use Rattle.expansion_model.specs.Visit.{Found, visit}
use Rattle.expansion_model.specs.declared.answer.Answer.{Answer}
use Rattle.expansion_model.specs.declared.answer.Answer.TheVariants as answer
use Rattle.expansion_model.specs.declared.answer.LimitKind.TheVariants as limit
use Rattle.expansion_model.specs.declared.message.Message.{Message}
use Rattle.expansion_model.proofs.EditsOfSites.{edits_are_of_sites, edits_made}
use Rattle.link_driver.proofs.Runs.{processes_serve, runs_ask_once, runs_give_links, runs_start_as_wanted}
use Rattle.link_driver.specs.Laws as of_list
use Rattle.link_driver.specs.Laws.{IsSublist, none, takes, skips, OnlyLastKeysFail}
use Rattle.link_driver.specs.Links.{KeySteps, LinkSeen}
use Rattle.link_driver.specs.LinkTable.{Look, asked_keys}
use Rattle.link_driver.specs.Lists.{Each}
use Rattle.link_driver.specs.Requests.{Wanted, key_of}
use Rattle.result_splice.specs.Edits.{IsEdited}
use Rattle.result_splice.specs.declared.edit.Edit.{Edit}
use Rattle.result_splice.specs.Laws.{MakesEdits}
use Rattle.expand_top.specs.Answers.{output_of}
use Rattle.expand_top.specs.Asking.{Asking, asking_of, AreDifferent, IsAskedOf, IsExpansion, IsOneOf, asked_in, is_limit, is_limited, output_in, times}
use Rattle.expand_top.specs.Lines.{Output}
use Rattle.expand_top.specs.Meaning.{Meaning, Refused, Means, NamedText, by_table, table_meaning, by_outline, source_meaning, by_macros, text_meaning, by_source, by_file, meaning_of}
use Rattle.expand_top.specs.Promises.{AskedOnce, IsServedOf, KeepsOutside, KeepsBytes, LinksServe, RepliesInOrder, Starts, StatusHasCause}
use Rattle.expand_top.specs.Run.{ReadsSource, ReadsNext, ReadsInputs, IsDelivered, whole, out_failed, err_failed, usage}
use Rattle.expand_top.specs.declared.ended.Inputs.{Inputs}
use Rattle.expand_top.specs.declared.ended.SourceRead.{SourceRead}
use Rattle.expand_top.specs.declared.ended.SourceRead.TheVariants as read
use Rattle.expand_top.proofs.Times.{contains_permuted, counted, different_front, different_permuted, not_in_none, of_map, one_of, stands}

-- a text that was read is refused with status 1
abbrev IsLow : Meaning → Type 0
IsLow (Refused output) = output.status ≡ 1
IsLow (Means source declared) = Unit {0}

low_declared : (files : List NamedText) (source : OutlineSeen) (found : Result (List MacroDecl) (List MacroFault)) → IsLow (by_table files source found)
low_declared files source (Ok declared) = tt
low_declared files source (Err faults) = refl

low_table : (files : List NamedText) (before : List OutlineSeen) (source : OutlineSeen) → IsLow (table_meaning files before source)
unfolding table_meaning
low_table files before source = low_declared files source (macros (before ++ source ∷ []))

low_outline : (files : List NamedText) (before : List OutlineSeen) (source : NamedText) (found : OutlineOutcome) → IsLow (by_outline files before source found)
low_outline files before source (Ok seen) = low_table (files ++ source ∷ []) before seen
low_outline files before source (Err fault) = refl

low_source : (files : List NamedText) (before : List OutlineSeen) (source : NamedText) → IsLow (source_meaning files before source)
unfolding source_meaning
low_source files before source = low_outline files before source (outline source.text File)

low_macros : (file source : NamedText) (found : OutlineOutcome) → IsLow (by_macros file source found)
low_macros file source (Ok seen) = low_source (file ∷ []) (seen ∷ []) source
low_macros file source (Err fault) = refl

low_text : (file : Option NamedText) (source : NamedText) → IsLow (text_meaning file source)
low_text None source = low_source [] [] source
low_text (Some file) source = low_macros file source (outline file.text File)

-- a source that the files mean is an accepted one
abbrev IsMeant : Meaning → Type 0
IsMeant (Refused output) = Unit {0}
IsMeant (Means source declared) = IsOutline source.text source.shape (Ok source)

of_its_own : (text : List ℕ) (seen : OutlineSeen) → outline text File ≡ Ok seen → IsOutline seen.text seen.shape (Ok seen)
of_its_own text seen is =
    let kept = outline_keeps_the_text text File seen (sym is) in sym is ∙ ap₂ outline (sym kept.0) (sym kept.1)

meant_declared : (files : List NamedText) (source : OutlineSeen) (found : Result (List MacroDecl) (List MacroFault)) → IsOutline source.text source.shape (Ok source) → IsMeant (by_table files source found)
meant_declared files source (Ok declared) sound = sound
meant_declared files source (Err faults) sound = tt

meant_table : (files : List NamedText) (before : List OutlineSeen) (source : OutlineSeen) → IsOutline source.text source.shape (Ok source) → IsMeant (table_meaning files before source)
unfolding table_meaning
meant_table files before source sound = meant_declared files source (macros (before ++ source ∷ [])) sound

meant_outline : (files : List NamedText) (before : List OutlineSeen) (source : NamedText) (found : OutlineOutcome) → outline source.text File ≡ found → IsMeant (by_outline files before source found)
meant_outline files before source (Ok seen) is = meant_table (files ++ source ∷ []) before seen (of_its_own source.text seen is)
meant_outline files before source (Err fault) is = tt

meant_source : (files : List NamedText) (before : List OutlineSeen) (source : NamedText) → IsMeant (source_meaning files before source)
unfolding source_meaning
meant_source files before source = meant_outline files before source (outline source.text File) refl

meant_macros : (file source : NamedText) (found : OutlineOutcome) → IsMeant (by_macros file source found)
meant_macros file source (Ok seen) = meant_source (file ∷ []) (seen ∷ []) source
meant_macros file source (Err fault) = tt

meant_text : (file : Option NamedText) (source : NamedText) → IsMeant (text_meaning file source)
meant_text None source = meant_source [] [] source
meant_text (Some file) source = meant_macros file source (outline file.text File)

meant_by_source : (name : List ℕ) (file : Option NamedText) (source : SourceRead) → IsMeant (by_source name file source)
meant_by_source name file read.Nothing = tt
meant_by_source name file read.Failed = tt
meant_by_source name file read.Larger = tt
meant_by_source name file (read.Bytes text) = meant_text file (record { name = name; text = text })

meant_by_file : (file name : List ℕ) (macros_read source : SourceRead) → IsMeant (by_file file name macros_read source)
meant_by_file file name read.Nothing source = tt
meant_by_file file name read.Failed source = tt
meant_by_file file name read.Larger source = tt
meant_by_file file name (read.Bytes text) source = meant_by_source name (Some (record { name = file; text = text })) source

meant : (file : Option (List ℕ)) (name : List ℕ) (inputs : Inputs) → IsMeant (meaning_of file name inputs)
meant None name inputs = meant_by_source name None inputs.source
meant (Some file) name inputs = meant_by_file file name inputs.macros inputs.source

-- what the files mean, by whether a read failed
abbrev IsKnown : FilesSeen → FilesSeen → Meaning → Type 0
IsKnown files after (Refused output) = ((output.status ≡ 1) × (after.faults ≡ files.faults)) ⊎ ((output.status ≡ 3) × Rose files.faults after.faults)
IsKnown files after (Means source declared) = after.faults ≡ files.faults

known_low : (files after : FilesSeen) (means : Meaning) → IsLow means → after.faults ≡ files.faults → IsKnown files after means
known_low files after (Refused output) low same = inl (low, same)
known_low files after (Means source declared) low same = same

source_known : (files after : FilesSeen) (name : List ℕ) (file : Option NamedText) (source : SourceRead) → ReadsSource files after name source → IsKnown files after (by_source name file source)
source_known files after name file read.Nothing reads = absurd reads
source_known files after name file read.Failed reads = inr (refl, reads.0)
source_known files after name file read.Larger reads = inl (refl, reads.0)
source_known files after name file (read.Bytes text) reads = known_low files after (text_meaning file (record { name = name; text = text })) (low_text file (record { name = name; text = text })) reads.0

known_from : (files between after : FilesSeen) (means : Meaning) → between.faults ≡ files.faults → IsKnown between after means → IsKnown files after means
known_from files between after (Refused output) same (inl low) = inl (low.0, low.1 ∙ same)
known_from files between after (Refused output) same (inr unread) = inr (unread.0, subst (λ (n : ℕ). Rose n after.faults) same unread.1)
known_from files between after (Means source declared) same known = known ∙ same

file_known : (files between after : FilesSeen) (file name : List ℕ) (macros_read source : SourceRead) → ReadsSource files between file macros_read → ReadsNext macros_read between after name source
    → IsKnown files after (by_file file name macros_read source)
file_known files between after file name read.Nothing source reads next = absurd reads
file_known files between after file name read.Failed source reads next =
    inr (refl, subst (λ (seen : FilesSeen). Rose files.faults seen.faults) (sym next.0) reads.0)
file_known files between after file name read.Larger source reads next = inl (refl, ap (λ (seen : FilesSeen). seen.faults) next.0 ∙ reads.0)
file_known files between after file name (read.Bytes text) source reads next =
    known_from files between after (by_source name (Some (record { name = file; text = text })) source) reads.0 (source_known between after name (Some (record { name = file; text = text })) source next)

known : (files after : FilesSeen) (file : Option (List ℕ)) (name : List ℕ) (inputs : Inputs) → ReadsInputs files after file name inputs → IsKnown files after (meaning_of file name inputs)
known files after None name inputs reads = source_known files after name None inputs.source reads.1
known files after (Some file) name inputs reads = file_known files reads.0 after file name inputs.macros inputs.source reads.1 reads.2

-- the status of what is written for an answer
answer_status : (name : List ℕ) (answered : Answer) → (output_of name answered).status < 2
answer_status name (answer.File bytes) = omega arith
answer_status name (answer.Faults messages) = omega arith
answer_status name (answer.Limit kind) = omega arith

output_status : (files after : FilesSeen) (name : List ℕ) (plugins : List Plugin) (means : Meaning) (table : Look) (output : Output) → IsKnown files after means → output ≡ output_in name plugins means table
    → ((output.status < 2) × (after.faults ≡ files.faults)) ⊎ ((output.status ≡ 3) × Rose files.faults after.faults)
output_status files after name plugins (Refused refusal) table output (inl low) is = inl (omega (arith, ap (λ (w : Output). w.status) is, low.0), low.1)
output_status files after name plugins (Refused refusal) table output (inr unread) is = inr (ap (λ (w : Output). w.status) is ∙ unread.0, unread.1)
output_status files after name plugins (Means source declared) table output same is =
    inl (omega (arith, ap (λ (w : Output). w.status) is, answer_status name (answer_of declared plugins table (source_buffer name source))), same)

-- what was written, where the status is 0
delivered_zero : (out out_after err err_after : SinkSeen) (output : Output) (status : ℕ) → IsDelivered out out_after err err_after output status → status ≡ 0
    → (output.status ≡ 0) × (out_after.held ≡ then_bytes out.held output.out)
delivered_zero out out_after err err_after output status (whole to_out to_err) nought = (nought, to_out.held)
delivered_zero out out_after err err_after output status (out_failed front same) nought = absurd (omega arith)
delivered_zero out out_after err err_after output status (err_failed to_out front) nought = absurd (omega arith)

no_zero : {A : Type 0} (output : Output) (n : ℕ) → output.status ≡ suc n → output.status ≡ 0 → A
no_zero output n is nought = absurd (omega (arith, is, nought))

-- the bytes are those of a text with edits that replace these spans
abbrev Kept : List ℕ → List Span → List ℕ → Type 0
Kept text spans bytes = (edits : List Edit) × (map replaced edits ≡ spans) × IsEdited text edits bytes

module _ (name : List ℕ) (plugins : List Plugin) (source : OutlineSeen) (declared : List MacroDecl) (table : Look) where
  abbrev buffer : BufferSeen
  buffer = source_buffer name source

  abbrev found : Found
  found = visit declared plugins table buffer

  abbrev spans : List Span
  spans = spans_of (buffer_sites declared plugins buffer)

  -- the status is 0 where the answer is a file
  messages_kept : MakesEdits → IsSound buffer → lacks_outcome table found ≡ false → (messages : List Message) → found.messages ≡ messages → (output_of name (by_messages source.text found messages)).status ≡ 0
      → Kept source.text spans (output_of name (by_messages source.text found messages)).out
  messages_kept makes sound complete [] is nought =
      (found.edits, edits_are_of_sites declared plugins table buffer complete is, makes source.text found.edits (edits_made declared plugins table buffer sound))
  messages_kept makes sound complete (message ∷ messages) is nought = no_zero (output_of name (by_messages source.text found (message ∷ messages))) 0 refl nought

  lacks_kept : MakesEdits → IsSound buffer → (b : Bool) → lacks_outcome table found ≡ b → (output_of name (if b then answer.Limit limit.Bytes else by_messages source.text found found.messages)).status ≡ 0
      → Kept source.text spans (output_of name (if b then answer.Limit limit.Bytes else by_messages source.text found found.messages)).out
  lacks_kept makes sound true is nought = no_zero (output_of name (answer.Limit limit.Bytes)) 0 refl nought
  lacks_kept makes sound false is nought = messages_kept makes sound is found.messages refl nought

  many_kept : MakesEdits → IsSound buffer → (b : Bool)
      → (output_of name (if b then answer.Limit limit.Requests else (if lacks_outcome table found then answer.Limit limit.Bytes else by_messages source.text found found.messages))).status ≡ 0
      → Kept source.text spans (output_of name (if b then answer.Limit limit.Requests else (if lacks_outcome table found then answer.Limit limit.Bytes else by_messages source.text found found.messages))).out
  many_kept makes sound true nought = no_zero (output_of name (answer.Limit limit.Requests)) 0 refl nought
  many_kept makes sound false nought = lacks_kept makes sound (lacks_outcome table found) refl nought

  answer_kept : MakesEdits → IsSound buffer → (output_of name (answer_of declared plugins table buffer)).status ≡ 0 → Kept source.text spans (output_of name (answer_of declared plugins table buffer)).out
  unfolding answer_of
  answer_kept makes sound nought = many_kept makes sound (are_too_many found) nought

output_kept : MakesEdits → (files after : FilesSeen) (name : List ℕ) (plugins : List Plugin) (means : Meaning) (table : Look) (output : Output) → IsKnown files after means → IsMeant means → output.status ≡ 0
    → output ≡ output_in name plugins means table → KeepsOutside name plugins means output.out
output_kept makes files after name plugins (Refused refusal) table output (inl low) meant nought is = no_zero output 0 (ap (λ (w : Output). w.status) is ∙ low.0) nought
output_kept makes files after name plugins (Refused refusal) table output (inr unread) meant nought is = no_zero output 2 (ap (λ (w : Output). w.status) is ∙ unread.0) nought
output_kept makes files after name plugins (Means source declared) table output same meant nought is =
    let kept = answer_kept name plugins source declared table makes meant (sym (ap (λ (w : Output). w.status) is) ∙ nought) in
    record { edits = kept.0; spans = kept.1; kept = subst (IsEdited source.text kept.0) (sym (ap (λ (w : Output). w.out) is)) kept.2 }

pub keeps_bytes : MakesEdits → (file : Option (List ℕ)) (name : List ℕ) (plugins : List Plugin) (inputs : Inputs) (asking : Asking) (output : Output) (files files_after : FilesSeen)
    (out out_after err err_after : SinkSeen) (status : ℕ) → ReadsInputs files files_after file name inputs → IsExpansion name plugins (meaning_of file name inputs) asking output
    → IsDelivered out out_after err err_after output status → KeepsBytes file name plugins inputs status out out_after
keeps_bytes makes file name plugins inputs asking output files files_after out out_after err err_after status reads is delivered nought =
    let wrote = delivered_zero out out_after err err_after output status delivered nought in
    (output.out, output_kept makes files files_after name plugins (meaning_of file name inputs) is.table output (known files files_after file name inputs reads) (meant file name inputs) wrote.0 is.writes, wrote.1)

whole_cause : (files files_after : FilesSeen) (out out_after err err_after : SinkSeen) (status : ℕ) → out_after.faults ≡ out.faults → err_after.faults ≡ err.faults
    → ((status < 2) × (files_after.faults ≡ files.faults)) ⊎ ((status ≡ 3) × Rose files.faults files_after.faults) → StatusHasCause status files files_after out out_after err err_after
whole_cause files files_after out out_after err err_after status out_same err_same (inl low) = record {
  range = omega (arith, low.0);
  not_two = λ two. omega (arith, low.0);
  three = λ three. absurd (omega (arith, low.0));
  files_fail = λ rose. absurd (omega (arith, low.1));
  four = λ four. absurd (omega (arith, low.0));
  out_fails = λ rose. absurd (omega arith);
  err_fails = λ rose. absurd (omega arith);
}
whole_cause files files_after out out_after err err_after status out_same err_same (inr unread) = record {
  range = omega (arith, unread.0);
  not_two = λ two. omega (arith, unread.0);
  three = λ three. unread.1;
  files_fail = λ rose. inl unread.0;
  four = λ four. absurd (omega (arith, unread.0));
  out_fails = λ rose. absurd (omega arith);
  err_fails = λ rose. absurd (omega arith);
}

four_cause : (files files_after : FilesSeen) (out out_after err err_after : SinkSeen) → Rose out.faults out_after.faults ⊎ Rose err.faults err_after.faults
    → StatusHasCause 4 files files_after out out_after err err_after
four_cause files files_after out out_after err err_after cause = record {
  range = omega arith;
  not_two = λ two. omega arith;
  three = λ three. absurd (omega arith);
  files_fail = λ rose. inr refl;
  four = λ four. cause;
  out_fails = λ rose. refl;
  err_fails = λ rose. refl;
}

pub status_has_cause : (file : Option (List ℕ)) (name : List ℕ) (plugins : List Plugin) (inputs : Inputs) (asking : Asking) (output : Output) (files files_after : FilesSeen)
    (out out_after err err_after : SinkSeen) (status : ℕ) → ReadsInputs files files_after file name inputs → IsExpansion name plugins (meaning_of file name inputs) asking output
    → IsDelivered out out_after err err_after output status → StatusHasCause status files files_after out out_after err err_after
status_has_cause file name plugins inputs asking output files files_after out out_after err err_after status reads is (whole to_out to_err) =
    whole_cause files files_after out out_after err err_after output.status to_out.faults to_err.faults
    (output_status files files_after name plugins (meaning_of file name inputs) is.table output (known files files_after file name inputs reads) is.writes)
status_has_cause file name plugins inputs asking output files files_after out out_after err err_after status reads is (out_failed front same) =
    four_cause files files_after out out_after err err_after (inl front.faults)
status_has_cause file name plugins inputs asking output files files_after out out_after err err_after status reads is (err_failed to_out front) =
    four_cause files files_after out out_after err err_after (inr front.faults)

-- a run that wrote doesn't answer want of memory
pub usage_is_not_five : (out out_after err err_after : SinkSeen) (status : ℕ) → IsDelivered out out_after err err_after usage status → status ≡ 5 → ⊥
usage_is_not_five out out_after err err_after status (whole to_out to_err) five = omega arith
usage_is_not_five out out_after err err_after status (out_failed front same) five = omega arith
usage_is_not_five out out_after err err_after status (err_failed to_out front) five = omega arith

pub none_some : {A : Type 0} (x : A) → None ≡ Some x → ⊥
none_some {A} x is = let P : Option A → Type 0 = λ o. elim o [ None ↦ Unit {0} | Some y ↦ ⊥ ] in subst P is tt

-- a property of all holds of some of them
all_of_some : (P : Wanted → Type 0) (some all : List Wanted) → IsSublist some all → All P all → All P some
all_of_some P _ _ (none all) each = All-nil P
all_of_some P _ _ (takes first some others sub) each =
    All-cons P first some (All-head P first others each) (all_of_some P some others sub (All-tail P first others each))
all_of_some P some _ (skips first _ others sub) each = all_of_some P some others sub (All-tail P first others each)

-- from what one run does to what it promises of its requests
serves : OnlyLastKeysFail → (plugins : List Plugin) (asked : List Request) (wanted : List Wanted) → All (IsOneOf plugins asked) wanted → (link : LinkSeen) → of_list.IsServedOf wanted link
    → IsServedOf plugins asked link × RepliesInOrder link
serves law plugins asked wanted each link served = (
  record { earlier = served.earlier; last = served.last; serves = served.serves; of_source = all_of_some (IsOneOf plugins asked) _ wanted served.wanted_so each },
  λ outcomes table. law served.earlier served.last link outcomes served.serves table,
)

all_serve : OnlyLastKeysFail → (plugins : List Plugin) (asked : List Request) (wanted : List Wanted) → All (IsOneOf plugins asked) wanted → (links : List LinkSeen) → Each (of_list.IsServedOf wanted) links
    → Each (λ link. IsServedOf plugins asked link × RepliesInOrder link) links
all_serve law plugins asked wanted all [] each = tt
all_serve law plugins asked wanted all (link ∷ links) each = (serves law plugins asked wanted all link each.0, all_serve law plugins asked wanted all links each.1)

pub links_served : OnlyLastKeysFail → (file : Option (List ℕ)) (name : List ℕ) (plugins : List Plugin) (inputs : Inputs) (asking : Asking) (output : Output)
    → IsExpansion name plugins (meaning_of file name inputs) asking output → LinksServe file name plugins inputs asking
links_served law file name plugins inputs asking output is =
    (is.table, is.is_table, all_serve law plugins (asked_in name plugins (meaning_of file name inputs) is.table) is.asks.wanted is.asks.each asking.links (processes_serve _ _ _ _ _ is.asks.ran))

pub starts_are_of : (file : Option (List ℕ)) (name : List ℕ) (plugins : List Plugin) (inputs : Inputs) (asking : Asking) (output : Output)
    → IsExpansion name plugins (meaning_of file name inputs) asking output → Starts file name plugins inputs asking
starts_are_of file name plugins inputs asking output is = record {
  links = runs_give_links _ _ _ _ _ is.asks.ran;
  table = is.table;
  is_table = is.is_table;
  commands = record { wanted = is.asks.wanted; of_source = is.asks.each; commands = runs_start_as_wanted _ _ _ _ _ is.asks.ran };
}

-- a request that is asked has an outcome, where none lacks one
none_missing : (b others : Bool) → (b || others) ≡ false → (b ≡ false) × (others ≡ false)
none_missing true others is = absurd (cc)
none_missing false others is = (refl, is)

missing_has : (table : Look) (requests : List Request) → list_any (is_missing table) requests ≡ false → (request : Request) → Contains requests request → table request.key ≡ None → ⊥
missing_has table [] complete request has is = not_in_none request has
missing_has table (first ∷ requests) complete request has is =
    let both = none_missing (is_missing table first) (list_any (is_missing table) requests) complete in
    elim (Contains-append_cases (first ∷ []) requests request has) [
      | inl here ↦ let lacks : is_missing table first ≡ true = ap is_none (ap (λ (r : Request). table r.key) (one_of request first here) ∙ is) in absurd (cc)
      | inr later ↦ missing_has table requests both.1 request later is
    ]

none_or_more : (n : ℕ) → ((0 < n) → ⊥) ⊎ (0 < n)
none_or_more zero = inl (λ some. omega (arith, some))
none_or_more (suc n) = inr (omega arith)

-- where no limit was met each request has an outcome
complete_by : (text : List ℕ) (found : Found) (many lacks : Bool) → is_limit (if many then answer.Limit limit.Requests else (if lacks then answer.Limit limit.Bytes else by_messages text found found.messages)) ≡ false → lacks ≡ false
complete_by text found true lacks is = absurd (cc)
complete_by text found false true is = absurd (cc)
complete_by text found false false is = refl

complete : (name : List ℕ) (plugins : List Plugin) (means : Meaning) (table : Look) → is_limited name plugins means table ≡ false → list_any (is_missing table) (asked_in name plugins means table) ≡ false
unfolding answer_of
complete name plugins (Refused output) table is = refl
complete name plugins (Means source declared) table is =
    let found = visit declared plugins table (source_buffer name source) in complete_by source.text found (are_too_many found) (lacks_outcome table found) is

module _ (plugins : List Plugin) (asked : List Request) (asking : Asking) (asks : IsAskedOf plugins asked asking) where
  abbrev keys : List KeySteps
  keys = asked_keys asking.links asking.unstarted

  abbrev once : of_list.AsksOnce asks.wanted asking.links asking.unstarted
  once = runs_ask_once _ _ _ _ _ asks.ran

  taken_keys : map key_of asks.wanted ≡ map key_of once.taken ++ map key_of once.left
  taken_keys = ap (map key_of) once.in_order ∙ map-append key_of once.taken once.left

  keys_differ : AreDifferent keys
  keys_differ = different_permuted (map key_of once.taken) keys once.once (different_front (map key_of once.taken) (map key_of once.left) (subst AreDifferent taken_keys asks.different))

  key_is_of : (key : KeySteps) → Contains keys key → (request : Request) × Contains asked request × (request.key ≡ key)
  key_is_of key has =
      let there = of_map key_of once.taken key (contains_permuted (map key_of once.taken) keys key once.once has) in
      let one = All-contains (IsOneOf plugins asked) asks.wanted there.0 asks.each
      (subst (λ (l : List Wanted). Contains l there.0) (sym once.in_order) (Contains-append_left once.taken once.left there.0 there.1)) in
      (one.request, one.among, ap key_of (sym one.is) ∙ there.2)

pub asked_once : (file : Option (List ℕ)) (name : List ℕ) (plugins : List Plugin) (inputs : Inputs) (asking : Asking) (output : Output)
    → IsExpansion name plugins (meaning_of file name inputs) asking output → AskedOnce file name plugins inputs asking
asked_once file name plugins inputs asking output is =
    let means = meaning_of file name inputs in
    let asked = asked_in name plugins means is.table in
    let keys = asked_keys asking.links asking.unstarted in (
      is.table,
      is.is_table,
      record {
        different = keys_differ plugins asked asking is.asks;
        of_source = key_is_of plugins asked asking is.asks;
        all = λ unlimited request among. elim (none_or_more (times request.key keys)) [
          | inl none_ ↦ absurd (missing_has is.table asked (complete name plugins means is.table unlimited) request among (is.is_table.no_others request.key (λ has. none_ (counted request.key keys has))))
          | inr some ↦ stands request.key keys some
        ];
        spent = is.spent;
      },
    )

-- nothing is asked for a refusal
pub nothing_expanded : (name : List ℕ) (plugins : List Plugin) (refusal : Output) (seen : StarterSeen) → IsExpansion name plugins (Refused refusal) (asking_of [] [] seen seen) refusal
nothing_expanded name plugins refusal seen = record {
  table = λ key. None;
  is_table = record { links_tell = tt; failures_tell = tt; no_others = λ key none_. refl };
  asks = record {
    wanted = [];
    ran = record { turns = []; left = []; in_order = refl; links_are = refl; unstarted_are = refl; are_turns = refl; within = tt; limit = inl refl };
    each = All-nil (IsOneOf plugins []);
    different = λ key. omega arith;
  };
  writes = refl;
  spent = λ is. absurd (cc);
}
