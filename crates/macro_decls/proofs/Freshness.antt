-- Where no declaration is at fault, no name stands twice.
use Rattle.std.proofs.Common.{◌≡◌, ℕ, Bool, true, false, cond, ◌||◌, Option, Some, None, List, [], ◌∷◌, ◌++◌, ◌==◌, length, filter_map, option_map, refl, sym, ap, ◌∙◌, true≢false}
use Rattle.std.proofs.lemmas.Bool.{eqb-true}
use Rattle.std.proofs.lemmas.List.{nil_from_length}
use Rattle.std.specs.List.{cons_option}
use Rattle.std.specs.Str.{bytes_eq}
use Rattle.macro_decls.specs.declared.external.External.{External}
use Rattle.macro_decls.specs.declared.fault.Found.{Found}
use Rattle.macro_decls.specs.declared.fault.MacroFault.{MacroFault}
use Rattle.macro_decls.specs.declared.table.MacroDecl.{MacroDecl}
use Rattle.macro_decls.specs.declared.written.MacroWritten.{MacroWritten}
use Rattle.macro_decls.specs.Faults.{faults_from, first_fault, is_among, with_fault}
use Rattle.macro_decls.specs.Macros.{declaration_named, declared, declared_by}
use Rattle.macro_decls.specs.Tables.{AreFresh}
use Rattle.macro_decls.proofs.Entries.{eq-sym}

no-fault : (written : MacroWritten) (found : Option Found) (faults : List MacroFault) → with_fault written found faults ≡ [] → faults ≡ []
no-fault written None faults none = none
no-fault written (Some found) faults none = cc

-- a declaration without fault has a new name, and those behind it have no fault either
new-name : (repeated : Bool) (written : MacroWritten) (faults : List MacroFault) → with_fault written (first_fault repeated written) faults ≡ [] → (repeated ≡ false) × (faults ≡ [])
unfolding first_fault
new-name true written faults none = cc
new-name false written faults none = (refl, no-fault written (first_fault false written) faults none)

or-left : (a b : Bool) → (a || b) ≡ false → a ≡ false
or-left true b h = h
or-left false b h = refl

or-right : (a b : Bool) → (a || b) ≡ false → b ≡ false
or-right true b h = absurd (true≢false h)
or-right false b h = h

named-push : (name : List ℕ) (done : List MacroDecl) (declaration : MacroDecl) → declaration_named name done ≡ None → bytes_eq name declaration.name ≡ false
    → declaration_named name (done ++ declaration ∷ []) ≡ None
named-push name [] declaration none other = ap (λ b. cond b (Some declaration) None) (eq-sym declaration.name name ∙ other)
named-push name (first ∷ done) declaration none other = by (bytes_eq first.name name) (declaration_named name done) none (λ h. named-push name done declaration h other)
  where
    by : (b : Bool) (o : Option MacroDecl) → cond b (Some first) o ≡ None → (o ≡ None → declaration_named name (done ++ declaration ∷ []) ≡ None)
        → cond b (Some first) (declaration_named name (done ++ declaration ∷ [])) ≡ None
    by true o h rest = h
    by false o h rest = rest h

-- one declaration further: where the macro declares one, it is fresh
fresh-step : (done others : List MacroDecl) (written : MacroWritten) (o : Option External) → declaration_named written.name done ≡ None → AreFresh done others
    → ((external : External) → AreFresh (done ++ declared_by written external ∷ []) others) → AreFresh done (cons_option (option_map (declared_by written) o) others)
fresh-step done others written None new skipped put = skipped
fresh-step done others written (Some external) new skipped put = (new, put external)

fresh-from : (before : List (List ℕ)) (done : List MacroDecl) (all : List MacroWritten) → ((name : List ℕ) → is_among before name ≡ false → declaration_named name done ≡ None)
    → faults_from before all ≡ [] → AreFresh done (filter_map declared all)
fresh-from before done [] covers none = tt
fresh-from before done (written ∷ others) covers none =
    let first = new-name (is_among before written.name) written (faults_from (written.name ∷ before) others) none in
    let others_covered : (name : List ℕ) → is_among (written.name ∷ before) name ≡ false → declaration_named name done ≡ None =
    λ name h. covers name (or-right (bytes_eq name written.name) (is_among before name) h) in
    fresh-step done (filter_map declared others) written written.external (covers written.name first.0)
    (fresh-from (written.name ∷ before) done others others_covered first.1)
    (λ external. fresh-from (written.name ∷ before) (done ++ declared_by written external ∷ []) others
    (λ name h. named-push name done (declared_by written external) (others_covered name h) (or-left (bytes_eq name written.name) (is_among before name) h)) first.1)

-- the declarations of macros without fault
pub fresh : (all : List MacroWritten) → faults_from [] all ≡ [] → AreFresh [] (filter_map declared all)
fresh all none = fresh-from [] [] all (λ name h. refl) none

pub empty : {A : Type 0} (xs : List A) (n : ℕ) → n ≡ length xs → true ≡ (n == 0) → xs ≡ []
empty xs n size none = nil_from_length xs (sym size ∙ eqb-true n 0 (sym none))
