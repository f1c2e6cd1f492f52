-- this project's own: what a call answers where it may want memory, and one step of a reading after another.
use Rattle.std.specs.Prelude.{◌≡◌, Result, Ok, Err}
use Rattle.plugin_messages.specs.declared.message.Refusal.{Refusal}
use Rattle.plugin_messages.specs.declared.message.Refusal.TheVariants.{Memory, Fault}

-- want of memory aside, the fault is this one
abbrev pub Refuses : {F : Type 0} → Refusal F → F → Type 0
Refuses Memory fault = Unit {0}
Refuses (Fault f) fault = fault ≡ f

-- want of memory aside, the answer, seen by `view`, is this outcome
abbrev pub AnswersAs : {A B F : Type 0} → (A → B) → Result A (Refusal F) → Result B F → Type 0
AnswersAs view (Ok x) outcome = outcome ≡ Ok (view x)
AnswersAs view (Err Memory) outcome = Unit {0}
AnswersAs view (Err (Fault f)) outcome = outcome ≡ Err f

abbrev pub Answers : {A F : Type 0} → Result A (Refusal F) → Result A F → Type 0
Answers (Ok x) outcome = outcome ≡ Ok x
Answers (Err Memory) outcome = Unit {0}
Answers (Err (Fault f)) outcome = outcome ≡ Err f

-- the first fault stays
abbrev pub and_then : {A B F : Type 0} → Result A F → (A → Result B F) → Result B F
and_then (Ok x) more = more x
and_then (Err f) more = Err f
