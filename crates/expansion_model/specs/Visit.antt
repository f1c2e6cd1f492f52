-- The visit of a buffer: what is asked, said and replaced, by recursion into replies, over one table of outcomes. This
-- project's own, after SE-0382 and SE-0397.
use Rattle.std.specs.Prelude.{ℕ, zero, suc, Bool, true, false, if◌then◌else◌, not, Option, Some, None, Ok, Err, List, [], ◌∷◌, ◌++◌, codes, length, map, filter}
use Rattle.std.specs.List.{flat_map}
use Rattle.swift_base.specs.declared.plugins.Plugin.{Plugin}
use Rattle.swift_tree.specs.Outlines.{ItemsSeen, none, cons, OutlineSeen}
use Rattle.unique_names.specs.declared.role.Role.{Role}
use Rattle.unique_names.specs.declared.role.Role.TheVariants as role
use Rattle.unique_names.specs.Names.{discriminator_of}
use Rattle.plugin_messages.specs.declared.message.Diagnostic.{Diagnostic}
use Rattle.plugin_messages.specs.declared.message.Outcome.{Outcome}
use Rattle.plugin_messages.specs.declared.message.Outcome.TheVariants as outcome
use Rattle.plugin_messages.specs.declared.request.Request.{Request}
use Rattle.role_names.specs.declared.rule.NameList.{NameList}
use Rattle.macro_decls.specs.declared.table.MacroDecl.{MacroDecl}
use Rattle.macro_decls.specs.declared.table.RoleDecl.{RoleDecl}
use Rattle.macro_decls.specs.Macros.{declaration_named}
use Rattle.result_reader.specs.Reading.{ReadingOutcome, reading_of}
use Rattle.result_reader.specs.declared.reading.Reading.{Reading}
use Rattle.result_reader.specs.declared.fault.ResultFault.{ResultFault}
use Rattle.result_splice.specs.Edits.{edited_text}
use Rattle.result_splice.specs.declared.edit.Edit.{Edit}
use Rattle.expansion_model.specs.Buffers.{BufferSeen, key_of, is_among, reply_name, reply_buffer}
use Rattle.expansion_model.specs.BufferSites.{buffer_sites}
use Rattle.expansion_model.specs.Macros.{role_eq}
use Rattle.expansion_model.specs.Messages.{message_at, message_in, refusal_text}
use Rattle.expansion_model.specs.Requests.{request_of}
use Rattle.expansion_model.specs.Table.{Look}
use Rattle.expansion_model.specs.declared.buffer.Ancestor.{Ancestor}
use Rattle.expansion_model.specs.declared.message.Message.{Message}
use Rattle.expansion_model.specs.declared.message.MessageText.{MessageText}
use Rattle.expansion_model.specs.declared.message.MessageText.TheVariants as says
use Rattle.expansion_model.specs.declared.site.Ask.{Ask}
use Rattle.expansion_model.specs.declared.site.Site.{Site}
use Rattle.expansion_model.specs.declared.site.Site.TheVariants as site

-- What a visit finds, in its order: the requests that are asked, the messages, and the edits of the buffer.
pub record Found : Type 0 where
  pub asked : List Request
  pub messages : List Message
  pub edits : List Edit

abbrev pub nothing : Found
nothing = record { asked = []; messages = []; edits = [] }

abbrev pub joined : Found → Found → Found
joined one other = record { asked = one.asked ++ other.asked; messages = one.messages ++ other.messages; edits = one.edits ++ other.edits }

abbrev pub says_it : Message → Found
says_it message = record { asked = []; messages = message ∷ []; edits = [] }

abbrev pub puts : Edit → Found
puts edit = record { asked = []; messages = []; edits = edit ∷ [] }

abbrev pub asks : Request → Found
asks request = record { asked = request ∷ []; messages = []; edits = [] }

-- what sites give, in their order
abbrev pub over : (Site → Found) → List Site → Found
over give [] = nothing
over give (first ∷ others) = joined (give first) (over give others)

-- the names that a macro may make in a role
abbrev pub names_in : Role → List RoleDecl → NameList
names_in wanted [] = record { rules = [] }
names_in wanted (own ∷ others) = if role_eq own.role wanted then own.names else names_in wanted others

abbrev pub names_of : Role → Option MacroDecl → NameList
names_of wanted None = record { rules = [] }
names_of wanted (Some declared) = names_in wanted declared.roles

-- as what the reply to a use is read
abbrev pub reading_for : List MacroDecl → BufferSeen → Ask → Reading
reading_for macros buffer ask = record {
  role = ask.stands_for.role;
  file_scope = ask.stands_for.file_scope;
  attached = None;
  discriminator = discriminator_of (key_of buffer.key ask);
  names = names_of ask.stands_for.role (declaration_named ask.target.name macros);
}

abbrev pub edit_from : ℕ → ℕ → List ℕ → Edit
edit_from start end bytes = record { start = start; end = end; bytes = bytes }

-- the text from its first token to its last, with its edits made
abbrev pub trimmed : OutlineSeen → List Edit → List ℕ
trimmed outline edits =
    edited_text outline.text (edit_from 0 outline.inside.start [] ∷ (edits ++ edit_from outline.inside.end (length outline.text) [] ∷ []))

-- no declaration at all
abbrev pub is_without : ItemsSeen → Bool
is_without none = true
is_without (cons first rest) = false

abbrev pub declarations_or_space : Bool → List ℕ → List ℕ
declarations_or_space true bytes = codes " "
declarations_or_space false bytes = codes "\n" ++ (bytes ++ codes "\n")

-- What is put in the place of a use: an expression in parentheses; declarations on lines of their own, or one space
-- where the reply has none.
abbrev pub put_by : Role → OutlineSeen → List Edit → List ℕ
put_by role.Declaration outline edits = declarations_or_space (is_without outline.items) (edited_text outline.text edits)
put_by _ outline edits = codes "(" ++ (trimmed outline edits ++ codes ")")

abbrev pub edit_of : Ask → OutlineSeen → List Edit → Edit
edit_of ask outline edits = edit_from ask.macro_use.span.start ask.macro_use.span.end (put_by ask.stands_for.role outline edits)

-- what the visit of a reply's buffer found, with the edit of its use in the place of its own edits
abbrev pub spliced : Ask → OutlineSeen → Found → Found
spliced ask outline found = record { asked = found.asked; messages = found.messages; edits = edit_of ask outline found.edits ∷ [] }

-- a refusal stands in the reply
abbrev pub refusal_in : BufferSeen → Ask → List ℕ → ResultFault → Message
refusal_in buffer ask reply fault = message_at (reply_name (key_of buffer.key ask)) reply fault.at (refusal_text ask.target.name fault.kind)

abbrev pub by_reading : (BufferSeen → Found) → BufferSeen → Ask → List ℕ → ReadingOutcome → Found
by_reading visit buffer ask reply (Err fault) = says_it (refusal_in buffer ask reply fault)
by_reading visit buffer ask reply (Ok outline) = spliced ask outline (visit (reply_buffer buffer ask outline))

-- a message at the use
abbrev pub at_use : BufferSeen → Ask → MessageText → Found
at_use buffer ask text = says_it (message_in buffer ask.macro_use.span.start text)

-- replies with diagnostics aren't built yet
abbrev pub by_reply : (BufferSeen → Found) → List MacroDecl → BufferSeen → Ask → Option (List ℕ) → List Diagnostic → Found
by_reply visit macros buffer ask None [] = at_use buffer ask (says.NoText ask.target.name)
by_reply visit macros buffer ask (Some reply) [] = by_reading visit buffer ask reply (reading_of (reading_for macros buffer ask) reply)
by_reply visit macros buffer ask reply (diagnostic ∷ diagnostics) = at_use buffer ask says.NotBuilt

abbrev pub by_outcome : (BufferSeen → Found) → List MacroDecl → BufferSeen → Ask → Option Outcome → Found
by_outcome visit macros buffer ask None = nothing
by_outcome visit macros buffer ask (Some (outcome.Failed cause)) = at_use buffer ask (says.NoReply ask.target.module)
by_outcome visit macros buffer ask (Some (outcome.Reply reply diagnostics)) = by_reply visit macros buffer ask reply diagnostics

-- what a site gives: a use is asked, and its reply is visited
abbrev pub given : (BufferSeen → Found) → List MacroDecl → Look → BufferSeen → Site → Found
given visit macros table buffer (site.Asks ask) = joined (asks (request_of buffer ask)) (by_outcome visit macros buffer ask (table (key_of buffer.key ask)))
given visit macros table buffer (site.Fault fault) = says_it (message_in buffer fault.at (says.Site fault.kind fault.name))
given visit macros table buffer (site.NotBuilt at) = says_it (message_in buffer at says.NotBuilt)
given visit macros table buffer (site.Attribute span) = puts (edit_from span.start span.end (codes " "))

-- the visit down to so many levels of replies
unfoldable pub visit_to : List MacroDecl → List Plugin → Look → ℕ → BufferSeen → Found
visit_to macros plugins table zero buffer = nothing
visit_to macros plugins table (suc depth) buffer = over (given (visit_to macros plugins table depth) macros table buffer) (buffer_sites macros plugins buffer)

-- each macro with each of its roles
abbrev pub pairs_in : MacroDecl → List Ancestor
pairs_in declared = map (λ own. record { macro_name = declared.name; role = own.role }) declared.roles

abbrev pub pairs_of : List MacroDecl → List Ancestor
pairs_of macros = flat_map pairs_in macros

-- How many pairs of a macro and a role are not among the ancestors: a reply has one less than the buffer of its use.
abbrev pub room : List MacroDecl → List Ancestor → ℕ
room macros ancestors = length (filter (λ pair. not (is_among pair ancestors)) (pairs_of macros))

-- The visit of a buffer and of all replies in it. The number of levels is no limit: see the law of the fixed point.
unfoldable pub visit : List MacroDecl → List Plugin → Look → BufferSeen → Found
visit macros plugins table buffer = visit_to macros plugins table (suc (room macros buffer.ancestors)) buffer
