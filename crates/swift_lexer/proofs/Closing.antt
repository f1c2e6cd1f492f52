-- How a text goes on inside strings and parentheses, by what stands at its front.
use Rattle.std.proofs.Common.{◌≡◌, ℕ, List, Option, Some, None, Ok, Err, sym, refl, subst}
use Rattle.swift_lexer.specs.declared.token.LexKind.TheVariants.{OpenString}
use Rattle.swift_lexer.specs.declared.strings.Open.{Open}
use Rattle.swift_lexer.specs.declared.strings.Step.{Step}
use Rattle.swift_lexer.specs.declared.strings.Step.TheVariants as step
use Rattle.swift_lexer.specs.Strings.{Stepped, step_in}
use Rattle.swift_lexer.specs.Tokens.{place, fault_at, string_start, Ending, Closes, ends, goes_on, opens, breaks, fails, stays_open}

-- where the ending of an inner one leads
abbrev pub Then : ℕ → Open → ℕ → Ending → Ending → Type 0
Then total around start (Ok after) ending = Closes total around start after ending
Then total around start (Err fault) ending = ending ≡ Err fault

abbrev pub ByStep : ℕ → Open → ℕ → List ℕ → Step → List ℕ → Ending → Type 0
ByStep total around start text step.Ends rest ending = ending ≡ Ok rest
ByStep total around start text step.GoesOn rest ending = Closes total around start rest ending
ByStep total around start text (step.Opens inner) rest ending = (inside : Ending) × Closes total inner (string_start inner start (place total text)) rest inside × Then total around start inside ending
ByStep total around start text (step.Fails kind) rest ending = ending ≡ Err (fault_at total rest kind)

-- the ending of a text, by the step at its front
abbrev pub By : ℕ → Open → ℕ → List ℕ → Option Stepped → Ending → Type 0
By total around start text None ending = ending ≡ Err (record { at = start; kind = OpenString })
By total around start text (Some stepped) ending = ByStep total around start text stepped.0 stepped.1 ending

pub Closes-by : (total : ℕ) (around : Open) (start : ℕ) (text : List ℕ) (ending : Ending) → Closes total around start text ending → By total around start text (step_in around text) ending
Closes-by total around start text ending (ends rest is) = subst (λ s. By total around start text s (Ok rest)) (sym is) refl
Closes-by total around start text ending (goes_on rest is closes) = subst (λ s. By total around start text s ending) (sym is) closes
Closes-by total around start text ending (opens inner rest after is closes others) = subst (λ s. By total around start text s ending) (sym is) (Ok after, closes, others)
Closes-by total around start text ending (breaks inner rest fault is closes) = subst (λ s. By total around start text s (Err fault)) (sym is) (Err fault, closes, refl)
Closes-by total around start text ending (fails kind here is) = subst (λ s. By total around start text s (Err (fault_at total here kind))) (sym is) refl
Closes-by total around start text ending (stays_open is) = subst (λ s. By total around start text s (Err (record { at = start; kind = OpenString }))) (sym is) refl

pub Then-closes : (total : ℕ) (around : Open) (start : ℕ) (text : List ℕ) (inner : Open) (rest : List ℕ) (inside ending : Ending) → step_in around text ≡ Some (step.Opens inner, rest) → Closes total inner (string_start inner start (place total text)) rest inside → Then total around start inside ending → Closes total around start text ending
Then-closes total around start text inner rest (Ok after) ending is closes others = opens inner rest after is closes others
Then-closes total around start text inner rest (Err fault) ending is closes same = subst (Closes total around start text) (sym same) (breaks inner rest fault is closes)

ByStep-closes : (total : ℕ) (around : Open) (start : ℕ) (text : List ℕ) (what : Step) (rest : List ℕ) (ending : Ending) → step_in around text ≡ Some (what, rest) → ByStep total around start text what rest ending → Closes total around start text ending
ByStep-closes total around start text step.Ends rest ending is same = subst (Closes total around start text) (sym same) (ends rest is)
ByStep-closes total around start text step.GoesOn rest ending is closes = goes_on rest is closes
ByStep-closes total around start text (step.Opens inner) rest ending is inside = Then-closes total around start text inner rest inside.0 ending is inside.1 inside.2
ByStep-closes total around start text (step.Fails kind) rest ending is same = subst (Closes total around start text) (sym same) (fails kind rest is)

pub By-closes : (total : ℕ) (around : Open) (start : ℕ) (text : List ℕ) (stepped : Option Stepped) (ending : Ending) → step_in around text ≡ stepped → By total around start text stepped ending → Closes total around start text ending
By-closes total around start text None ending is same = subst (Closes total around start text) (sym same) (stays_open is)
By-closes total around start text (Some stepped) ending is by = ByStep-closes total around start text stepped.0 stepped.1 ending is by

-- a text has one ending
pub closes_one : (total : ℕ) {around : Open} {start : ℕ} {text : List ℕ} {one : Ending} (other : Ending) → Closes total around start text one → Closes total around start text other → one ≡ other
closes_one total {around} {start} {text} other (ends rest is) again =
    sym (subst (λ s. By total around start text s other) is (Closes-by total around start text other again))
closes_one total {around} {start} {text} other (goes_on rest is closes) again =
    closes_one total other closes (subst (λ s. By total around start text s other) is (Closes-by total around start text other again))
closes_one total {around} {start} {text} other (opens inner rest after is closes others) again =
    let by = subst (λ s. By total around start text s other) is (Closes-by total around start text other again) in
    let inside : Ok after ≡ by.0 = closes_one total by.0 closes by.1 in
    closes_one total other others (subst (λ e. Then total around start e other) (sym inside) by.2)
closes_one total {around} {start} {text} other (breaks inner rest fault is closes) again =
    let by = subst (λ s. By total around start text s other) is (Closes-by total around start text other again) in
    let inside : Err fault ≡ by.0 = closes_one total by.0 closes by.1 in
    sym (subst (λ e. Then total around start e other) (sym inside) by.2)
closes_one total {around} {start} {text} other (fails kind here is) again =
    sym (subst (λ s. By total around start text s other) is (Closes-by total around start text other again))
closes_one total {around} {start} {text} other (stays_open is) again =
    sym (subst (λ s. By total around start text s other) is (Closes-by total around start text other again))
