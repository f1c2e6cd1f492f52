-- How an answer passes on through a reading.
use Rattle.std.proofs.Common.{Result, Err, ap}
use Rattle.plugin_messages.specs.declared.message.Refusal.{Refusal}
use Rattle.plugin_messages.specs.declared.message.Refusal.TheVariants.{Memory, Fault}
use Rattle.plugin_messages.specs.Answers.{Answers, AnswersAs, and_then}

-- a fault stays what it is
pub passes : {A B F : Type 0} (r : Refusal F) (o : Result A F) (more : A → Result B F) → Answers {A = A} (Err r) o → Answers {A = B} (Err r) (and_then o more)
passes Memory o more h = tt
passes (Fault f) o more h = ap (λ p. and_then p more) h

pub passes_as : {A B C F : Type 0} (v : C → A) (r : Refusal F) (o : Result A F) (more : A → Result B F) → AnswersAs v (Err r) o → Answers {A = B} (Err r) (and_then o more)
passes_as v Memory o more h = tt
passes_as v (Fault f) o more h = ap (λ p. and_then p more) h
