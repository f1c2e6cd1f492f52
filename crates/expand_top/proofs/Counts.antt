-- Each round gives one key more its outcome, so there are no more rounds than requests that may be asked.
use Rattle.std.proofs.Common.{◌≡◌, ◌∙◌, ◌⊎◌, inl, inr, refl, sym, ap, subst, arith, ℕ, ◌+◌, ◌≤◌, Option, Some, None, List, [], ◌∷◌, ◌++◌, length, map, length-append}
use Rattle.std.specs.List.{All, Contains}
use Rattle.std.proofs.lemmas.List.{length-map}
use Rattle.std.proofs.lemmas.List.Elements.{All-contains, All-nil, All-push, All-weaker}
use Rattle.swift_base.specs.Outside.{StarterSeen}
use Rattle.swift_base.specs.declared.plugins.Plugin.{Plugin}
use Rattle.plugin_messages.specs.declared.message.Outcome.{Outcome}
use Rattle.plugin_messages.specs.declared.request.Request.{Request}
use Rattle.macro_decls.specs.declared.table.MacroDecl.{MacroDecl}
use Rattle.expansion_model.specs.Buffers.{BufferSeen}
use Rattle.expansion_model.specs.Table.{IsWithin}
use Rattle.link_driver.specs.Driven.{DriverSeen, IsSpent}
use Rattle.link_driver.specs.Links.{KeySteps}
use Rattle.link_driver.specs.LinkTable.{Look}
use Rattle.link_driver.specs.Requests.{key_of}
use Rattle.link_driver.specs.Told.{driver_keys}
use Rattle.link_driver.proofs.Wanted.{wanted_is_told}
use Rattle.expand_top.specs.Asking.{AreDifferent, IsOneOf}
use Rattle.expand_top.specs.UnderWay.{IsDecided, IsUnderWay, asked_with}
use Rattle.expand_top.proofs.Times.{contains_permuted, different_more, in_map, no_more, of_map, stands_or_not}
use Rattle.expand_top.proofs.Ways.{missing_if, no_outcome}

abbrev HasOne : Look → KeySteps → Type 0
HasOne table key = table key ≡ None → ⊥

-- so many keys have outcomes
pub record HaveOutcomes (count : ℕ) (table : Look) : Type 0 where
  pub keys : List KeySteps
  pub many : length keys ≡ count
  pub different : AreDifferent keys
  pub each : All (HasOne table) keys

-- after so many rounds: so many keys have outcomes, or the processes gave more than is read
abbrev pub HasCome : ℕ → Look → DriverSeen → Type 0
HasCome rounds table driver = IsSpent driver ⊎ HaveOutcomes rounds table

pub no_round : (table : Look) (driver : DriverSeen) → HasCome 0 table driver
no_round table driver = inr (record { keys = []; many = refl; different = λ key. omega arith; each = All-nil (HasOne table) })

module _ (rounds : ℕ) (table : Look) (have : HaveOutcomes rounds table) (key : KeySteps) (missing : table key ≡ None) where
  is_new : Contains have.keys key → ⊥
  is_new has = All-contains (HasOne table) have.keys key have.each has missing

  all_different : AreDifferent (have.keys ++ key ∷ [])
  all_different = different_more have.keys key have.different is_new

  one_more : (wider : Look) → IsWithin table wider → HasOne wider key → HaveOutcomes (rounds + 1) wider
  one_more wider within has = record {
    keys = have.keys ++ key ∷ [];
    many = omega (arith, length-append have.keys (key ∷ []), have.many);
    different = all_different;
    each = All-push (HasOne wider) have.keys key
        (All-weaker (HasOne table) (HasOne wider) (λ k some none_. some (missing_if table wider k within none_ (table k) refl)) have.keys have.each) has;
  }

  further_if : (wider : Look) (next : DriverSeen) → IsWithin table wider → (wider key ≡ None → IsSpent next) → (o : Option Outcome) → wider key ≡ o → HasCome (rounds + 1) wider next
  further_if wider next within decided None is = inl (decided is)
  further_if wider next within decided (Some own) is = inr (one_more wider within (λ none_. no_outcome own (sym none_ ∙ is)))

-- one round more
pub further : (rounds : ℕ) (table wider : Look) (driver next : DriverSeen) (first : Request) → HasCome rounds table driver → (IsSpent driver → ⊥) → table first.key ≡ None → IsWithin table wider → IsDecided wider next first
    → HasCome (rounds + 1) wider next
further rounds table wider driver next first come goes_on missing within decided = elim come [
  | inl spent ↦ absurd (goes_on spent)
  | inr have ↦ further_if rounds table have first.key missing wider next within decided (wider first.key) refl
]

module _ (macros : List MacroDecl) (plugins : List Plugin) (source : BufferSeen) (before : StarterSeen) (driver : DriverSeen) (table : Look) (after : StarterSeen) (way : IsUnderWay macros plugins source before driver table after) (goes_on : IsSpent driver → ⊥) where
  abbrev asked : List Request
  asked = asked_with macros plugins source table

  abbrev asked_keys : List KeySteps
  asked_keys = map (λ (request : Request). request.key) asked

  -- what has an outcome is asked
  is_asked : (key : KeySteps) → HasOne table key → Contains asked_keys key
  is_asked key has = elim (stands_or_not key (driver_keys driver)) [
    | inl told ↦
        let there = of_map key_of way.wanted key (contains_permuted (map key_of way.wanted) (driver_keys driver) key (wanted_is_told way.wanted before driver after way.driven goes_on) told) in
        let one = All-contains (IsOneOf plugins asked) way.wanted there.0 way.each there.1 in
        subst (Contains asked_keys) (ap key_of (sym one.is) ∙ there.2) (in_map (λ (request : Request). request.key) asked one.request one.among)
    | inr untold ↦ absurd (has (way.tells.no_others key untold))
  ]

  room_for : (rounds : ℕ) → HaveOutcomes rounds table → (first : Request) → Contains asked first → table first.key ≡ None → rounds + 1 ≤ length asked
  room_for rounds have first among missing =
      omega (
        arith,
        no_more (have.keys ++ first.key ∷ []) asked_keys (all_different rounds table have first.key missing)
            (All-push (Contains asked_keys) have.keys first.key (All-weaker (HasOne table) (Contains asked_keys) is_asked have.keys have.each) (in_map (λ (request : Request). request.key) asked first among)),
        length-append have.keys (first.key ∷ []),
        have.many,
        length-map asked (λ (request : Request). request.key),
      )

  -- a round with something to ask is one of so many as there are requests
  pub has_room : (rounds : ℕ) → HasCome rounds table driver → (first : Request) → Contains asked first → table first.key ≡ None → rounds + 1 ≤ length asked
  has_room rounds come first among missing = elim come [
    | inl spent ↦ absurd (goes_on spent)
    | inr have ↦ room_for rounds have first among missing
  ]
