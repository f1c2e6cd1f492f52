-- Outcomes as calls answer them: want of memory is the one free answer.
use Rattle.std.specs.Prelude.{Result, Ok, Err}
use Rattle.swift_base.specs.declared.refusal.Refusal.{Refusal}
use Rattle.swift_base.specs.declared.refusal.Refusal.TheVariants.{Memory, Fault}

-- a fault is an outcome, want of memory is none
abbrev pub Refuses : {A F : Type 0} → Refusal F → (Result A F → Type 0) → Type 0
Refuses Memory P = Unit {0}
Refuses (Fault fault) P = P (Err fault)

-- what the call answers, seen by `view`, is an outcome for which P holds
abbrev pub Answers : {V A F : Type 0} → (V → A) → Result V (Refusal F) → (Result A F → Type 0) → Type 0
Answers view (Ok value) P = P (Ok (view value))
Answers view (Err refusal) P = Refuses refusal P

-- what is read from a value, where there is one; the first fault counts
abbrev pub and_then : {A B F : Type 0} → Result A F → (A → Result B F) → Result B F
and_then (Ok value) next = next value
and_then (Err found) next = Err found
