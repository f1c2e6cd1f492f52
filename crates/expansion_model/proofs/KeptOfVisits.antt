-- What is kept of visits, joined as the visits are.
use Rattle.std.proofs.Common.{◌≡◌, ◌∙◌, refl, sym, ap, arith, ℕ, ◌<◌, ◌≤◌, length, Bool, true, false, if◌then◌else◌, Option, Some, None, List, [], ◌∷◌, append_assoc, append-nil}
use Rattle.std.proofs.lemmas.List.{map-append}
use Rattle.std.proofs.lemmas.List.Elements.{filter-append}
use Rattle.plugin_messages.specs.declared.message.Outcome.{Outcome}
use Rattle.plugin_messages.specs.declared.request.Request.{Request}
use Rattle.result_splice.specs.declared.edit.Edit.{Edit}
use Rattle.expansion_model.specs.Table.{Look, is_missing, is_none}
use Rattle.macro_decls.specs.declared.table.MacroDecl.{MacroDecl}
use Rattle.expansion_model.specs.Buffers.{BufferSeen, key_of}
use Rattle.expansion_model.specs.Messages.{message_in}
use Rattle.expansion_model.specs.Requests.{IsPlaceIn, place_of, request_of}
use Rattle.plugin_messages.specs.declared.message.Diagnostic.{Diagnostic}
use Rattle.expansion_model.specs.declared.message.MessageText.{MessageText}
use Rattle.expansion_model.specs.declared.message.MessageText.TheVariants as says
use Rattle.expansion_model.specs.declared.place.Place.{Place}
use Rattle.expansion_model.specs.declared.site.Ask.{Ask}
use Rattle.expansion_model.specs.declared.site.Site.{Site}
use Rattle.expansion_model.specs.declared.site.Site.TheVariants as site
use Rattle.expansion_model.specs.Visit.{Found, asks, at_use, by_outcome, by_reply, given, joined, nothing, over, puts, says_it}
use Rattle.expansion_model.specs.Visited.{VisitedSeen, a_message, a_missing, a_request, an_edit, visited_of, with_more}
use Rattle.expansion_model.specs.declared.message.Message.{Message}

-- two records with the same fields
same_seen : (one other : VisitedSeen) → one.asked ≡ other.asked → one.missing ≡ other.missing → one.messages ≡ other.messages → one.edits ≡ other.edits → one ≡ other
same_seen one other asked missing messages edits = λ i. record { asked = asked i; missing = missing i; messages = messages i; edits = edits i }

pub with_more-assoc : (one other last : VisitedSeen) → with_more (with_more one other) last ≡ with_more one (with_more other last)
unfolding with_more
with_more-assoc one other last =
    same_seen _ _ (append_assoc one.asked other.asked last.asked) (append_assoc one.missing other.missing last.missing) (append_assoc one.messages other.messages last.messages) (append_assoc one.edits other.edits last.edits)

pub visited-joined : (table : Look) (one other : Found) → visited_of table (joined one other) ≡ with_more (visited_of table one) (visited_of table other)
unfolding with_more visited_of
visited-joined table one other =
    same_seen _ _ (map-append (λ (request : Request). request.role) one.asked other.asked) (filter-append (is_missing table) one.asked other.asked) refl refl

pub with_more-joined : (table : Look) (seen : VisitedSeen) (one other : Found)
    → with_more (with_more seen (visited_of table one)) (visited_of table other) ≡ with_more seen (visited_of table (joined one other))
with_more-joined table seen one other =
    with_more-assoc seen (visited_of table one) (visited_of table other) ∙ ap (with_more seen) (sym (visited-joined table one other))

-- nothing more
pub with_more-nothing : (table : Look) (seen : VisitedSeen) → with_more seen (visited_of table nothing) ≡ seen
unfolding with_more visited_of
with_more-nothing table seen =
    same_seen _ _ (append-nil seen.asked) (append-nil seen.missing) (append-nil seen.messages) (append-nil seen.edits)

pub nothing-with_more : (table : Look) (found : Found) → with_more (visited_of table nothing) (visited_of table found) ≡ visited_of table found
unfolding with_more visited_of
nothing-with_more table found = same_seen _ _ refl refl refl refl

pub visited-message : (table : Look) (message : Message) → visited_of table (says_it message) ≡ a_message message
unfolding visited_of
visited-message table message = same_seen _ _ refl refl refl refl

pub visited-edit : (table : Look) (edit : Edit) → visited_of table (puts edit) ≡ an_edit edit
unfolding visited_of
visited-edit table edit = same_seen _ _ refl refl refl refl

-- a request, by its outcome
pub visited-asked : (table : Look) (request : Request) (outcome : Outcome) → table request.key ≡ Some outcome → visited_of table (asks request) ≡ a_request request.role
unfolding visited_of
visited-asked table request outcome is =
    let there : is_missing table request ≡ false = ap is_none is in
    same_seen _ _ refl (ap (λ (b : Bool). if b then request ∷ [] else []) there) refl refl

pub visited-missing : (table : Look) (request : Request) → table request.key ≡ None → visited_of table (asks request) ≡ a_missing request
unfolding visited_of
visited-missing table request is =
    let lacks : is_missing table request ≡ true = ap is_none is in
    same_seen _ _ refl (ap (λ (b : Bool). if b then request ∷ [] else []) lacks) refl refl

-- what is kept at a use that has an outcome
pub kept-asked : (macros : List MacroDecl) (table : Look) (visit : BufferSeen → Found) (buffer : BufferSeen) (ask : Ask) (seen middle last : VisitedSeen) (outcome : Outcome)
    → table (key_of buffer.key ask) ≡ Some outcome → middle ≡ with_more seen (a_request ask.stands_for.role) → last ≡ with_more middle (visited_of table (by_outcome visit macros buffer ask (Some outcome)))
    → last ≡ with_more seen (visited_of table (given visit macros table buffer (site.Asks ask)))
unfolding request_of
kept-asked macros table visit buffer ask seen middle last outcome is first second =
    let request = request_of buffer ask in
    second ∙ ap (λ (s : VisitedSeen). with_more s (visited_of table (by_outcome visit macros buffer ask (Some outcome)))) (first ∙ ap (with_more seen) (sym (visited-asked table request outcome is)))
    ∙ with_more-joined table seen (asks request) (by_outcome visit macros buffer ask (Some outcome))
    ∙ ap (λ (o : Option Outcome). with_more seen (visited_of table (joined (asks request) (by_outcome visit macros buffer ask o)))) (sym is)

-- and at one that has none
pub kept-missing : (macros : List MacroDecl) (table : Look) (visit : BufferSeen → Found) (buffer : BufferSeen) (ask : Ask) (seen last : VisitedSeen) (request : Request)
    → table (key_of buffer.key ask) ≡ None → request ≡ request_of buffer ask → last ≡ with_more seen (a_missing request) → last ≡ with_more seen (visited_of table (given visit macros table buffer (site.Asks ask)))
unfolding request_of
kept-missing macros table visit buffer ask seen last request is same put =
    let own = request_of buffer ask in
    put ∙ ap (λ (r : Request). with_more seen (a_missing r)) same ∙ ap (with_more seen) (sym (visited-missing table own is))
    ∙ sym (with_more-nothing table (with_more seen (visited_of table (asks own)))) ∙ with_more-joined table seen (asks own) nothing
    ∙ ap (λ (o : Option Outcome). with_more seen (visited_of table (joined (asks own) (by_outcome visit macros buffer ask o)))) (sym is)

-- a message at a place of a buffer
pub kept-message : (table : Look) (buffer : BufferSeen) (at : ℕ) (place : Place) (text own : MessageText) (seen last : VisitedSeen) → place ≡ place_of buffer.outline.text at → text ≡ own
    → last ≡ with_more seen (a_message (message_in buffer place.at text)) → last ≡ with_more seen (visited_of table (says_it (message_in buffer at own)))
unfolding place_of
kept-message table buffer at place text own seen last is same put =
    put ∙ ap (λ (p : Place). with_more seen (a_message (message_in buffer p.at text))) is ∙ ap (λ (t : MessageText). with_more seen (a_message (message_in buffer at t))) same
    ∙ ap (with_more seen) (sym (visited-message table (message_in buffer at own)))

-- the visit of sites, one site on
pub kept-further : (table : Look) (give : Site → Found) (seen next : VisitedSeen) (first : Site) (others : List Site) (all : VisitedSeen)
    → next ≡ with_more seen (visited_of table (give first)) → with_more seen (visited_of table (over give (first ∷ others))) ≡ all → with_more next (visited_of table (over give others)) ≡ all
kept-further table give seen next first others all is whole =
    ap (λ (s : VisitedSeen). with_more s (visited_of table (over give others))) is ∙ with_more-joined table seen (give first) (over give others) ∙ whole

-- a place that was found is one of the text
pub placed : (text : List ℕ) (place : Place) (at : ℕ) → place ≡ place_of text at → IsPlaceIn text place
unfolding place_of
placed text place at is = is ∙ ap (place_of text) (sym (ap (λ (p : Place). p.at) is))

-- a reply by its diagnostics
pub reply-without : (visit : BufferSeen → Found) (macros : List MacroDecl) (buffer : BufferSeen) (ask : Ask) (diagnostics : List Diagnostic) → length diagnostics ≤ 0
    → by_reply visit macros buffer ask None diagnostics ≡ at_use buffer ask (says.NoText ask.target.name)
reply-without visit macros buffer ask [] none_ = refl
reply-without visit macros buffer ask (diagnostic ∷ diagnostics) none_ = absurd (omega (arith, none_))

pub reply-with : (visit : BufferSeen → Found) (macros : List MacroDecl) (buffer : BufferSeen) (ask : Ask) (reply : Option (List ℕ)) (diagnostics : List Diagnostic) → 0 < length diagnostics
    → by_reply visit macros buffer ask reply diagnostics ≡ at_use buffer ask says.NotBuilt
reply-with visit macros buffer ask None [] some = absurd (omega (arith, some))
reply-with visit macros buffer ask (Some reply) [] some = absurd (omega (arith, some))
reply-with visit macros buffer ask None (diagnostic ∷ diagnostics) some = refl
reply-with visit macros buffer ask (Some reply) (diagnostic ∷ diagnostics) some = refl

pub first_place : (text : List ℕ) → IsPlaceIn text (record { at = 0; line = 1; column = 1 })
unfolding place_of
first_place text = refl
