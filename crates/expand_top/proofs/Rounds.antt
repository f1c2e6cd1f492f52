-- What a round asks, and that no answer of a step is the limit of bytes.
use Rattle.std.proofs.Common.{◌≡◌, sym, refl, subst, arith, ℕ, ◌≤◌, Bool, true, false, if◌then◌else◌, Option, Some, None, List, [], ◌∷◌, length}
use Rattle.std.specs.Prelude.{All}
use Rattle.std.specs.List.{Contains, filter}
use Rattle.std.proofs.lemmas.Bool.Decides.{nat_tests}
use Rattle.std.proofs.lemmas.List.Elements.{All-cons, All-filter, All-head, All-nil, All-tail, All-weaker, Contains-append_left, Contains-append_right, Contains-push, filter_passes}
use Rattle.swift_base.specs.declared.plugins.Plugin.{Plugin}
use Rattle.plugin_messages.specs.Writable.{IsRequestWritable}
use Rattle.plugin_messages.specs.declared.message.Outcome.{Outcome}
use Rattle.plugin_messages.specs.declared.request.Request.{Request}
use Rattle.macro_decls.specs.declared.table.MacroDecl.{MacroDecl}
use Rattle.expansion_model.specs.Answer.{answer_of, are_too_many, by_messages, lacks_outcome}
use Rattle.expansion_model.specs.Buffers.{BufferSeen}
use Rattle.expansion_model.specs.Steps.{AreMissing, StepSeen, Done, Missing, by_missing, step_of}
use Rattle.expansion_model.specs.Table.{Look, is_missing, is_none}
use Rattle.expansion_model.specs.Visit.{Found, visit}
use Rattle.expansion_model.specs.declared.answer.Answer.{Answer}
use Rattle.expansion_model.specs.declared.answer.Answer.TheVariants as answer
use Rattle.expansion_model.specs.declared.answer.LimitKind.TheVariants as limit
use Rattle.expansion_model.specs.declared.answer.TheConstants.{MOST_REQUESTS}
use Rattle.expansion_model.specs.declared.message.Message.{Message}
use Rattle.expand_top.specs.UnderWay.{asked_with}

all_contained : {X : Type 0} (xs : List X) → All (Contains xs) xs
all_contained [] = All-nil (Contains [])
all_contained (x ∷ xs) =
    All-cons (Contains (x ∷ xs)) x xs (Contains-append_left (x ∷ []) xs x (Contains-push [] x))
    (All-weaker (Contains xs) (Contains (x ∷ xs)) (λ y has. Contains-append_right (x ∷ []) xs y has) xs (all_contained xs))

is_nothing : (outcome : Option Outcome) → is_none outcome ≡ true → outcome ≡ None
is_nothing None is = refl
is_nothing (Some outcome) is = absurd (cc)

module _ (macros : List MacroDecl) (plugins : List Plugin) (table : Look) (source : BufferSeen) (first : Request) (others : List Request) (missing : AreMissing macros plugins table source (first ∷ others)) where
  abbrev asked : List Request
  asked = asked_with macros plugins source table

  pub first_missing : table first.key ≡ None
  first_missing =
      is_nothing (table first.key) (All-head (λ request. is_missing table request ≡ true) first others
      (subst (All (λ request. is_missing table request ≡ true)) (sym missing.are) (filter_passes (is_missing table) asked)))

  all_of : (P : Request → Type 0) → All P asked → All P (first ∷ others)
  all_of P each = subst (All P) (sym missing.are) (All-filter (is_missing table) P asked each)

  pub first_asked : Contains asked first
  first_asked = All-head (Contains asked) first others (all_of (Contains asked) (all_contained asked))

  pub others_asked : All (Contains asked) others
  others_asked = All-tail (Contains asked) first others (all_of (Contains asked) (all_contained asked))

  pub first_writable : All IsRequestWritable asked → IsRequestWritable first
  first_writable each = All-head IsRequestWritable first others (all_of IsRequestWritable each)

  pub others_writable : All IsRequestWritable asked → All IsRequestWritable others
  others_writable each = All-tail IsRequestWritable first others (all_of IsRequestWritable each)

abbrev IsRequests : Answer → Type 0
IsRequests (answer.Limit limit.Bytes) = ⊥
IsRequests (answer.Limit limit.Requests) = Unit {0}
IsRequests (answer.File bytes) = ⊥
IsRequests (answer.Faults messages) = ⊥

-- where more is asked than is allowed, the answer is another limit
few_if : (found : Found) (other : Answer) (b : Bool) → are_too_many found ≡ b → (if b then answer.Limit limit.Requests else other) ≡ answer.Limit limit.Bytes → length found.asked ≤ MOST_REQUESTS
few_if found other true is bytes = absurd (subst IsRequests bytes tt)
few_if found other false is bytes = grind (arith, nat_tests, is)

pub few_asked : (macros : List MacroDecl) (plugins : List Plugin) (table : Look) (source : BufferSeen) (requests : List Request) → AreMissing macros plugins table source requests → length (asked_with macros plugins source table) ≤ MOST_REQUESTS
unfolding answer_of
few_asked macros plugins table source requests missing =
    let found = visit macros plugins table source in
    few_if found (if lacks_outcome table found then answer.Limit limit.Bytes else by_messages source.outline.text found found.messages) (are_too_many found) refl missing.answers

-- no answer of a step is the limit of bytes
abbrev IsOther : Answer → Type 0
IsOther (answer.Limit limit.Bytes) = ⊥
IsOther (answer.Limit limit.Requests) = Unit {0}
IsOther (answer.File bytes) = Unit {0}
IsOther (answer.Faults messages) = Unit {0}

abbrev DoesOther : StepSeen → Type 0
DoesOther (Done answered) = IsOther answered
DoesOther (Missing first others) = Unit {0}

messages_other : (text : List ℕ) (found : Found) (messages : List Message) → IsOther (by_messages text found messages)
messages_other text found [] = tt
messages_other text found (message ∷ messages) = tt

missing_other : (text : List ℕ) (found : Found) (requests : List Request) → DoesOther (by_missing text found requests)
missing_other text found [] = messages_other text found found.messages
missing_other text found (first ∷ others) = tt

module _ (table : Look) (text : List ℕ) (found : Found) where
  many_other : (b : Bool) → DoesOther (if b then Done (answer.Limit limit.Requests) else by_missing text found (filter (is_missing table) found.asked))
  many_other true = tt
  many_other false = missing_other text found (filter (is_missing table) found.asked)

step_other : (macros : List MacroDecl) (plugins : List Plugin) (table : Look) (source : BufferSeen) → DoesOther (step_of macros plugins table source)
unfolding step_of
step_other macros plugins table source = let found = visit macros plugins table source in many_other table source.outline.text found (are_too_many found)

pub done_other : (macros : List MacroDecl) (plugins : List Plugin) (table : Look) (source : BufferSeen) (answered : Answer) → Done answered ≡ step_of macros plugins table source → answered ≡ answer.Limit limit.Bytes → ⊥
done_other macros plugins table source answered is bytes =
    subst IsOther bytes (subst DoesOther (sym is) (step_other macros plugins table source))
