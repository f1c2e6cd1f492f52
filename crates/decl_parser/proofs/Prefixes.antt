-- What was read before, and then the outcome of what is left.
use Rattle.std.proofs.Common.{◌≡◌, refl, ap, append_assoc, List, [], ◌++◌, Result, Ok, Err}
use Rattle.swift_base.specs.declared.refusal.Refusal.{Refusal}
use Rattle.swift_base.specs.declared.refusal.Refusal.TheVariants.{Memory, Fault}
use Rattle.element_marks.specs.Answers.{Refuses}
use Rattle.decl_parser.specs.Parts.{prefixed}

pub prefixed_more : {A F : Type 0} (before more : List A) (outcome : Result (List A) F) → prefixed (before ++ more) outcome ≡ prefixed before (prefixed more outcome)
prefixed_more before more (Ok others) = ap Ok (append_assoc before more others)
prefixed_more before more (Err fault) = refl

pub prefixed_nothing : {A F : Type 0} (outcome : Result (List A) F) → prefixed [] outcome ≡ outcome
prefixed_nothing (Ok others) = refl
prefixed_nothing (Err fault) = refl

-- a fault of a part is one of the whole
pub refused_on : {A B F : Type 0} (refusal : Refusal F) (here : Result A F) (whole : Result B F) → ((fault : F) → Err fault ≡ here → Err fault ≡ whole) → Refuses refusal (λ outcome. outcome ≡ here) → Refuses refusal (λ outcome. outcome ≡ whole)
refused_on Memory here whole step refused = tt
refused_on (Fault fault) here whole step refused = step fault refused
