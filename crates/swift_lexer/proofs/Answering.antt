-- Answers, by what their outcomes are.
use Rattle.std.proofs.Common.{Ok, Err}
use Rattle.std.specs.Prelude.{Result}
use Rattle.swift_lexer.specs.declared.refusal.Refusal.{Refusal}
use Rattle.swift_lexer.specs.declared.refusal.Refusal.TheVariants.{Memory, Fault}
use Rattle.swift_lexer.specs.Answers.{Answers}

pub Answers-map : {V A F : Type 0} (view : V → A) (result : Result V (Refusal F)) (P Q : Result A F → Type 0) → ((outcome : Result A F) → P outcome → Q outcome) → Answers view result P → Answers view result Q
Answers-map view (Ok value) P Q f answers = f (Ok (view value)) answers
Answers-map view (Err Memory) P Q f answers = tt
Answers-map view (Err (Fault fault)) P Q f answers = f (Err fault) answers
