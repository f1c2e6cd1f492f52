-- The faults of declarations in a row, one declaration further.
use Rattle.std.proofs.Common.{◌≡◌, ℕ, ◌+◌, ◌<◌, Bool, true, false, not, ◌||◌, Option, Some, None, List, [], ◌∷◌, ◌++◌, length, drop, get_or, append_assoc, refl, sym, ap, ◌∙◌}
use Rattle.std.proofs.lemmas.List.{at_drop_more}
use Rattle.std.specs.Str.{bytes_eq}
use Rattle.macro_decls.specs.Faults.{faults_from, first_fault, is_among, with_fault}
use Rattle.macro_decls.specs.declared.fault.Found.{Found}
use Rattle.macro_decls.specs.declared.fault.MacroFault.{MacroFault}
use Rattle.macro_decls.specs.declared.written.MacroWritten.{MacroWritten}
use Rattle.macro_decls.proofs.Entries.{eq-sym}

not-not : (b : Bool) → not (not b) ≡ b
not-not true = refl
not-not false = refl

with_fault-more : (written : MacroWritten) (found : Option Found) (faults : List MacroFault) → with_fault written found [] ++ faults ≡ with_fault written found faults
with_fault-more written None faults = refl
with_fault-more written (Some found) faults = refl

-- the names seen before are those before and the one that is new
pub seen-more : (before : List (List ℕ)) (own : List ℕ) (has has_new : List ℕ → Bool) → ((name : List ℕ) → has name ≡ is_among before name)
    → ((name : List ℕ) → has_new name ≡ (bytes_eq own name || has name)) → (name : List ℕ) → has_new name ≡ is_among (own ∷ before) name
seen-more before own has has_new covers added name =
    added name ∙ ap (λ b. b || has name) (eq-sym own name) ∙ ap (λ b. bytes_eq name own || b) (covers name)

-- a name is repeated where it isn't new
pub is_repeated : (before : List (List ℕ)) (own : List ℕ) (new has : Bool) → has ≡ is_among before own → new ≡ not has → not new ≡ is_among before own
is_repeated before own new has covers is = ap not is ∙ not-not has ∙ covers

pub faults-further : (before : List (List ℕ)) (all : List MacroWritten) (i : ℕ) (written : MacroWritten) (faults more : List MacroFault) (repeated : Bool) (found : Option Found)
    → i < length all → written ≡ get_or all i written → repeated ≡ is_among before written.name → found ≡ first_fault repeated written → more ≡ faults ++ with_fault written found []
    → more ++ faults_from (written.name ∷ before) (drop (i + 1) all) ≡ faults ++ faults_from before (drop i all)
faults-further before all i written faults more repeated found inside is repeats fault put =
    let rest : List MacroFault = faults_from (written.name ∷ before) (drop (i + 1) all) in
    ap (λ (l : List MacroFault). l ++ rest) put ∙ append_assoc faults (with_fault written found []) rest
    ∙ ap (λ (l : List MacroFault). faults ++ l)
    (with_fault-more written found rest
    ∙ ap (λ (o : Option Found). with_fault written o rest) (fault ∙ ap (λ b. first_fault b written) repeats)
    ∙ ap (λ (w : MacroWritten). faults_from before (w ∷ drop (i + 1) all)) is
    ∙ sym (at_drop_more (faults_from before) all i written inside))
