-- How a check goes on from one row or item to the next.
use Rattle.std.proofs.Common.{◌≡◌, ℕ, ◌+◌, ◌<◌, ◌≤◌, List, [], ◌∷◌, map, length, get_or, drop, add-one, drop-cons, Some, Result, Ok, Err, refl, sym, ap, ◌∙◌}
use Rattle.std.specs.Prelude.{⊤}
use Rattle.std.proofs.Math.ListN.{drop_of_length-le}
use Rattle.serde_json.specs.Data.{Data}
use Rattle.serde_json.specs.Find.{as_array}
use Rattle.serde_json.specs.View.{view, items_view, items_of}
use Rattle.serde_json.specs.declared.value.Value.{Value}
use Rattle.plugin_messages.specs.declared.message.Reason.{Reason}
use Rattle.plugin_messages.specs.declared.message.Refusal.{Refusal}
use Rattle.plugin_messages.specs.declared.message.Refusal.TheVariants.{Memory, Fault}
use Rattle.plugin_messages.specs.Answers.{Answers, and_then}
use Rattle.plugin_messages.specs.Fields.{or_bad, list_of}
use Rattle.plugin_messages.specs.Checked.{Checked, all_checked}

-- those before i passed, so the rest decides
abbrev pub RestDecides : {A B : Type 0} → (B → Checked) → (A → B) → List A → ℕ → Type 0
RestDecides check f xs i = all_checked check (map f xs) ≡ all_checked check (map f (drop i xs))

at_next : {A B : Type 0} (check : B → Checked) (f : A → B) (xs : List A) (i : ℕ) (v : A) → i < length xs
    → all_checked check (map f (drop i xs)) ≡ and_then (check (f (get_or xs i v))) (λ _. all_checked check (map f (drop (i + 1) xs)))
unfolding all_checked
at_next check f xs i v h = rw (add-one, drop-cons xs i v h) refl

pub goes_on_to : {A B : Type 0} (check : B → Checked) (f : A → B) (xs : List A) (i : ℕ) (v x : A)
    → i < length xs → x ≡ get_or xs i v → check (f x) ≡ Ok tt → RestDecides check f xs i → RestDecides check f xs (i + 1)
goes_on_to check f xs i v x h here e rest =
    rest ∙ (at_next check f xs i v h ∙ ap (λ o. and_then o (λ _. all_checked check (map f (drop (i + 1) xs)))) (ap (λ y. check (f y)) (sym here) ∙ e))

pub stops_at : {A B : Type 0} (check : B → Checked) (f : A → B) (xs : List A) (i : ℕ) (v x : A) (r : Refusal Reason)
    → i < length xs → x ≡ get_or xs i v → Answers {A = ⊤} (Err r) (check (f x)) → RestDecides check f xs i → Answers {A = ⊤} (Err r) (all_checked check (map f xs))
stops_at check f xs i v x Memory h here e rest = tt
stops_at check f xs i v x (Fault r) h here e rest =
    rest ∙ (at_next check f xs i v h ∙ ap (λ o. and_then o (λ _. all_checked check (map f (drop (i + 1) xs)))) (ap (λ y. check (f y)) (sym here) ∙ e))

pub all_passed : {A B : Type 0} (check : B → Checked) (f : A → B) (xs : List A) (i : ℕ) → length xs ≤ i → RestDecides check f xs i → all_checked check (map f xs) ≡ Ok tt
unfolding all_checked
all_passed check f xs i done rest = rest ∙ ap (λ l. all_checked check (map f l)) (drop_of_length-le xs done)

pub list_of_items_of : (ds : List Data) → list_of (items_of ds) ≡ ds
unfolding list_of
list_of_items_of [] = refl
list_of_items_of (d ∷ ds) = ap (λ l. d ∷ l) (list_of_items_of ds)

pub objects_checked : (check : Data → Checked) (label : List ℕ) (d : Data) (vs : List Value) (r : Result ⊤ (Refusal Reason))
    → as_array d ≡ Some (items_view vs) → Answers r (all_checked check (map view vs)) → Answers r (and_then (or_bad label (as_array d)) (λ items. all_checked check (list_of items)))
objects_checked check label d vs r e h = rw (e, list_of_items_of (map view vs)) h
