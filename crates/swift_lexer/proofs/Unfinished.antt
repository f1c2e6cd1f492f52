-- What is open around the text that is still to be read: its endings complete those of the whole.
use Rattle.std.proofs.Common.{◌≡◌, ℕ, List, [], ◌∷◌, ◌++◌, Some, None, Ok, Err, sym, refl, subst}
use Rattle.swift_lexer.specs.declared.token.LexFault.{LexFault}
use Rattle.swift_lexer.specs.declared.token.LexKind.{LexKind}
use Rattle.swift_lexer.specs.declared.token.LexKind.TheVariants.{OpenString}
use Rattle.swift_lexer.specs.declared.strings.Open.{Open}
use Rattle.swift_lexer.specs.declared.strings.Level.{Level}
use Rattle.swift_lexer.specs.declared.strings.Step.TheVariants as step
use Rattle.swift_lexer.specs.Strings.{step_in}
use Rattle.swift_lexer.specs.Tokens.{place, fault_at, string_start, Ending, Closes, ends, goes_on, fails, stays_open}
use Rattle.swift_lexer.proofs.Closing.{Then, Then-closes}

-- the ending inside these levels, the outermost first, by that of the innermost
abbrev pub In : ℕ → List Level → (Ending → Type 0) → Ending → Type 0
In total [] P ending = P ending
In total (level ∷ levels) P ending = (inside : Ending) × In total levels P inside × Then total level.within level.start inside ending

In-map : (total : ℕ) (levels : List Level) (P Q : Ending → Type 0) → ((e : Ending) → P e → Q e) → (ending : Ending) → In total levels P ending → In total levels Q ending
In-map total [] P Q f ending inn = f ending inn
In-map total (level ∷ levels) P Q f ending inn = (inn.0, In-map total levels P Q f inn.0 inn.1, inn.2)

-- one level more
abbrev Around : ℕ → Level → (Ending → Type 0) → Ending → Type 0
Around total level P ending = (inside : Ending) × P inside × Then total level.within level.start inside ending

In-pop : (total : ℕ) (levels : List Level) (level : Level) (P : Ending → Type 0) (ending : Ending) → In total (levels ++ level ∷ []) P ending → In total levels (Around total level P) ending
In-pop total [] level P ending inn = inn
In-pop total (outer ∷ levels) level P ending inn = (inn.0, In-pop total levels level P inn.0 inn.1, inn.2)

In-push : (total : ℕ) (levels : List Level) (level : Level) (P : Ending → Type 0) (ending : Ending) → In total levels (Around total level P) ending → In total (levels ++ level ∷ []) P ending
In-push total [] level P ending inn = inn
In-push total (outer ∷ levels) level P ending inn = (inn.0, In-push total levels level P inn.0 inn.1, inn.2)

In-fault : (total : ℕ) (levels : List Level) (P : Ending → Type 0) (fault : LexFault) → P (Err fault) → In total levels P (Err fault)
In-fault total [] P fault p = p
In-fault total (level ∷ levels) P fault p = (Err fault, In-fault total levels P fault p, refl)

abbrev ClosesIn : ℕ → Level → List ℕ → Ending → Type 0
ClosesIn total level rest = Closes total level.within level.start rest

-- the endings of what is still to be read complete those of the text
pub record Unfinished (total : ℕ) (outer : Open) (begun : ℕ) (text : List ℕ) (levels : List Level) (level : Level) (rest : List ℕ) : Type 0 where
  pub whole : (ending : Ending) → In total levels (ClosesIn total level rest) ending → Closes total outer begun text ending

pub Unfinished-start : (total : ℕ) (level : Level) (text : List ℕ) → Unfinished total level.within level.start text [] level text
Unfinished-start total level text = record { whole = λ ending closes. closes }

module _ {total : ℕ} {outer : Open} {begun : ℕ} {text : List ℕ} {levels : List Level} {level : Level} {rest : List ℕ} (unfinished : Unfinished total outer begun text levels level rest) where
  pub Unfinished-goes_on : (after : List ℕ) → step_in level.within rest ≡ Some (step.GoesOn, after) → Unfinished total outer begun text levels level after
  Unfinished-goes_on after is = record {
    whole = λ ending inn. unfinished.whole ending (In-map total levels (ClosesIn total level after) (ClosesIn total level rest) (λ e closes. goes_on after is closes) ending inn);
  }

  pub Unfinished-opens : (inner : Level) (more : List Level) (after : List ℕ) → step_in level.within rest ≡ Some (step.Opens inner.within, after) → inner.start ≡ string_start inner.within level.start (place total rest) → more ≡ levels ++ level ∷ [] → Unfinished total outer begun text more inner after
  Unfinished-opens inner more after is start pushed = record {
    whole = λ ending inn.
        let inn' = In-pop total levels level (ClosesIn total inner after) ending (subst (λ l. In total l (ClosesIn total inner after) ending) pushed inn) in
        unfinished.whole ending (In-map total levels (Around total level (ClosesIn total inner after)) (ClosesIn total level rest)
        (λ e around. Then-closes total level.within level.start rest inner.within after around.0 e is (subst (λ s. Closes total inner.within s after around.0) start around.1) around.2)
        ending inn');
  }

  pub Unfinished-ends : (others : List Level) (around : Level) (after : List ℕ) → step_in level.within rest ≡ Some (step.Ends, after) → levels ≡ others ++ around ∷ [] → Unfinished total outer begun text others around after
  Unfinished-ends others around after is popped = record {
    whole = λ ending inn.
        let inn' = In-push total others around (ClosesIn total level rest) ending (In-map total others (ClosesIn total around after) (Around total around (ClosesIn total level rest)) (λ e closes. (Ok after, ends after is, closes)) ending inn) in
        unfinished.whole ending (subst (λ l. In total l (ClosesIn total level rest) ending) (sym popped) inn');
  }

  pub Unfinished-done : (after : List ℕ) → step_in level.within rest ≡ Some (step.Ends, after) → levels ≡ [] → Closes total outer begun text (Ok after)
  Unfinished-done after is none = unfinished.whole (Ok after) (subst (λ l. In total l (ClosesIn total level rest) (Ok after)) (sym none) (ends after is))

  pub Unfinished-fails : (kind : LexKind) (here : List ℕ) → step_in level.within rest ≡ Some (step.Fails kind, here) → Closes total outer begun text (Err (fault_at total here kind))
  Unfinished-fails kind here is = unfinished.whole (Err (fault_at total here kind)) (In-fault total levels (ClosesIn total level rest) (fault_at total here kind) (fails kind here is))

  pub Unfinished-stays_open : step_in level.within rest ≡ None → Closes total outer begun text (Err (record { at = level.start; kind = OpenString }))
  Unfinished-stays_open is = unfinished.whole (Err (record { at = level.start; kind = OpenString })) (In-fault total levels (ClosesIn total level rest) (record { at = level.start; kind = OpenString }) (stays_open is))
