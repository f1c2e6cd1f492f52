-- Refusals in contracts. This project's own.
use Rattle.swift_base.specs.declared.refusal.Refusal.{Refusal}
use Rattle.swift_base.specs.declared.refusal.Refusal.TheVariants.{Memory, Fault}

-- a fact about the fault; want of memory has none
abbrev pub IfFault : {F : Type 0} → Refusal F → (F → Type 0) → Type 0
IfFault Memory P = Unit {0}
IfFault (Fault fault) P = P fault
