-- A run that is under way, one request further.
use Rattle.std.proofs.Common.{◌≡◌, ◌∙◌, inl, inr, refl, sym, ap, subst, ℕ, ◌+◌, ◌<◌, Bool, true, false, Option, Some, None, List, [], ◌∷◌, ◌++◌, length, map, take, get_or}
use Rattle.std.specs.List.{Contains}
use Rattle.std.specs.Cmp.Lexicographic.{pointwise}
use Rattle.std.proofs.lemmas.List.{map-append, take_more}
use Rattle.std.proofs.lemmas.List.Elements.{All-append, All-cons, All-nil, All-push, All-weaker}
use Rattle.std.proofs.lemmas.List.Sorted.{IsPermutation-sym}
use Rattle.swift_base.specs.Outside.{StarterSeen}
use Rattle.swift_base.specs.declared.plugins.Plugin.{Plugin}
use Rattle.unique_names.specs.Steps.{step_eq}
use Rattle.unique_names.proofs.Laws.{keys_decide}
use Rattle.plugin_messages.specs.declared.message.Outcome.{Outcome}
use Rattle.plugin_messages.specs.declared.request.Request.{Request}
use Rattle.macro_decls.specs.declared.table.MacroDecl.{MacroDecl}
use Rattle.expansion_model.specs.Buffers.{BufferSeen}
use Rattle.expansion_model.specs.Table.{IsWithin}
use Rattle.expansion_model.proofs.AskedGrow.{asked_grow}
use Rattle.link_driver.specs.Driven.{DriverSeen, IsDriven, IsSpent}
use Rattle.link_driver.specs.Links.{KeySteps}
use Rattle.link_driver.specs.LinkTable.{Look}
use Rattle.link_driver.specs.Requests.{Wanted, key_of}
use Rattle.link_driver.specs.Told.{HasTable, IsPut, driver_keys}
use Rattle.link_driver.proofs.Wanted.{wanted_is_told}
use Rattle.expand_top.specs.Asking.{AreDifferent, IsOneOf, wanted_for}
use Rattle.expand_top.specs.UnderWay.{HasAsked, IsDecided, IsUnderWay, asked_with}
use Rattle.expand_top.proofs.Times.{contains_permuted, different_more}

pub no_outcome : {A : Type 0} (outcome : Outcome) → None ≡ Some outcome → A
no_outcome {A} outcome is = let P : Option Outcome → Type 0 = λ o. elim o [ None ↦ Unit {0} | Some x ↦ A ] in subst P is tt

put_if : (table after : Look) (key : KeySteps) (own : Outcome) → table key ≡ None → IsPut table key (Some own) after → (other : KeySteps) (b : Bool) → pointwise step_eq other key ≡ b → (outcome : Outcome) → table other ≡ Some outcome
    → after other ≡ Some outcome
put_if table after key own missing put other true is outcome there =
    no_outcome outcome (sym missing ∙ ap table (sym ((keys_decide other key).0 is)) ∙ there)
put_if table after key own missing put other false is outcome there =
    put.1 other (λ same. let yes_ = (keys_decide other key).1 same in absurd (cc)) ∙ there

-- what is put in leaves the rest
pub put_within : (table after : Look) (key : KeySteps) (outcome : Option Outcome) → table key ≡ None → IsPut table key outcome after → IsWithin table after
put_within table after key None missing put other outcome there = put other ∙ there
put_within table after key (Some own) missing put other outcome there = put_if table after key own missing put other (pointwise step_eq other key) refl outcome there

-- what has no outcome in the end had none put
pub none_put : (table after : Look) (key : KeySteps) (outcome : Option Outcome) → IsPut table key outcome after → after key ≡ None → outcome ≡ None
none_put table after key None put none_ = refl
none_put table after key (Some own) put none_ = no_outcome own (sym none_ ∙ put.0)

-- what has no outcome in the end had none before
pub missing_if : (table wider : Look) (key : KeySteps) → IsWithin table wider → wider key ≡ None → (o : Option Outcome) → table key ≡ o → table key ≡ None
missing_if table wider key within none_ None is = is
missing_if table wider key within none_ (Some own) is = no_outcome own (sym none_ ∙ within key own is)

still_decided : (table wider : Look) (driver next : DriverSeen) → IsWithin table wider → (IsSpent driver → IsSpent next) → (request : Request) → IsDecided table driver request → IsDecided wider next request
still_decided table wider driver next within stays request decided none_ = stays (decided (missing_if table wider request.key within none_ (table request.key) refl))

pub none_asked : (driver : DriverSeen) (table : Look) → HasTable table driver → HasAsked [] driver table driver
none_asked driver table has = record { tells = has; stays_spent = λ spent. spent; each = All-nil (IsDecided table driver) }

pub one_asked : (request : Request) (driver next : DriverSeen) (table : Look) → HasTable table next → (IsSpent driver → IsSpent next) → IsDecided table next request → HasAsked (request ∷ []) driver table next
one_asked request driver next table has stays decided =
    record { tells = has; stays_spent = stays; each = All-cons (IsDecided table next) request [] decided (All-nil (IsDecided table next)) }

-- some requests are asked, and then others
pub both_asked : (some others : List Request) (driver between next : DriverSeen) (table wider : Look) → IsWithin table wider → HasAsked some driver table between → HasAsked others between wider next
    → HasAsked (some ++ others) driver wider next
both_asked some others driver between next table wider within first second = record {
  tells = second.tells;
  stays_spent = λ spent. second.stays_spent (first.stays_spent spent);
  each = All-append (IsDecided wider next) some others
      (All-weaker (IsDecided table between) (IsDecided wider next) (still_decided table wider between next within second.stays_spent) some first.each) second.each;
}

-- one request more of a list
pub asked_further : (requests : List Request) (index : ℕ) (request : Request) (driver between next : DriverSeen) (table wider : Look) → index < length requests → request ≡ get_or requests index request
    → IsWithin table wider → HasAsked (take index requests) driver table between → HasAsked (request ∷ []) between wider next → HasAsked (take (index + 1) requests) driver wider next
asked_further requests index request driver between next table wider less is within first second =
    subst (λ (l : List Request). HasAsked l driver wider next) (ap (λ r. take index requests ++ r ∷ []) is ∙ sym (take_more requests index request less))
    (both_asked (take index requests) (request ∷ []) driver between next table wider within first second)

module _ (macros : List MacroDecl) (plugins : List Plugin) (source : BufferSeen) where
  widened : (table wider : Look) → IsWithin table wider → (wanted : Wanted) → IsOneOf plugins (asked_with macros plugins source table) wanted → IsOneOf plugins (asked_with macros plugins source wider) wanted
  widened table wider within wanted one =
      record { request = one.request; among = asked_grow macros plugins table wider source one.request within one.among; is = one.is }

  module _ (before : StarterSeen) (driver : DriverSeen) (table : Look) (after : StarterSeen) (way : IsUnderWay macros plugins source before driver table after) (goes_on : IsSpent driver → ⊥) where
    is_new : (key : KeySteps) → table key ≡ None → Contains (map key_of way.wanted) key → ⊥
    is_new key missing has = elim way.tells.decided [
      | inl spent ↦ goes_on spent
      | inr decided ↦
          decided key (contains_permuted (driver_keys driver) (map key_of way.wanted) key
          (IsPermutation-sym (map key_of way.wanted) (driver_keys driver) (wanted_is_told way.wanted before driver after way.driven goes_on)) has) missing
    ]

    pub one_further : (request : Request) (next : DriverSeen) (wider : Look) (end : StarterSeen) → Contains (asked_with macros plugins source table) request → table request.key ≡ None → IsWithin table wider
        → IsDriven (way.wanted ++ wanted_for plugins request ∷ []) before next end → HasTable wider next → IsUnderWay macros plugins source before next wider end
    one_further request next wider end among missing within driven tells = record {
      wanted = way.wanted ++ wanted_for plugins request ∷ [];
      driven = driven;
      tells = tells;
      each = All-push (IsOneOf plugins (asked_with macros plugins source wider)) way.wanted (wanted_for plugins request)
          (All-weaker (IsOneOf plugins (asked_with macros plugins source table)) (IsOneOf plugins (asked_with macros plugins source wider)) (widened table wider within) way.wanted way.each)
          (record { request = request; among = asked_grow macros plugins table wider source request within among; is = refl });
      different = subst AreDifferent (sym (map-append key_of way.wanted (wanted_for plugins request ∷ []))) (different_more (map key_of way.wanted) request.key way.different (is_new request.key missing));
    }
