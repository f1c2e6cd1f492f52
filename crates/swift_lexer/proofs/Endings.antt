-- A string or a pair of parentheses passes a character at least.
use Rattle.std.proofs.Common.{ℕ, List, Ok, Err}
use Rattle.swift_lexer.specs.declared.strings.Open.{Open}
use Rattle.swift_lexer.specs.declared.strings.Step.TheVariants as step
use Rattle.swift_lexer.specs.Tokens.{Ending, Closes, ends, goes_on, opens, breaks, fails, stays_open}
use Rattle.swift_lexer.proofs.Leaving.{Passes, Passes-then, step_in-passes}

abbrev EndingPasses : List ℕ → Ending → Type 0
EndingPasses text (Ok rest) = Passes text rest
EndingPasses text (Err fault) = Unit {0}

passes_then : (text middle : List ℕ) (ending : Ending) → Passes text middle → EndingPasses middle ending → EndingPasses text ending
passes_then text middle (Err fault) first second = tt
passes_then text middle (Ok rest) first second = Passes-then text middle rest first second

ending_passes : (total : ℕ) {around : Open} {start : ℕ} {text : List ℕ} {ending : Ending} → Closes total around start text ending → EndingPasses text ending
ending_passes total {around} {start} {text} {ending} (ends rest is) = step_in-passes around text step.Ends rest is tt
ending_passes total {around} {start} {text} {ending} (goes_on rest is closes) = passes_then text rest ending (step_in-passes around text step.GoesOn rest is tt) (ending_passes total closes)
ending_passes total {around} {start} {text} {ending} (opens inner rest after is closes others) =
    passes_then text rest ending (step_in-passes around text (step.Opens inner) rest is tt) (passes_then rest after ending (ending_passes total closes) (ending_passes total others))
ending_passes total {around} {start} {text} {ending} (breaks inner rest fault is closes) = tt
ending_passes total {around} {start} {text} {ending} (fails kind here is) = tt
ending_passes total {around} {start} {text} {ending} (stays_open is) = tt

pub Closes-passes : (total : ℕ) (around : Open) (start : ℕ) (text rest : List ℕ) → Closes total around start text (Ok rest) → Passes text rest
Closes-passes total around start text rest closes = ending_passes total closes
