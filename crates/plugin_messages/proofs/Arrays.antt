-- An array is written item by item.
use Rattle.std.proofs.Common.{◌≡◌, ℕ, ◌+◌, ◌<◌, ◌≤◌, List, [], ◌∷◌, ◌++◌, map, take, length, get_or, refl, sym, ap, ◌∙◌, Vec, Global}
use Rattle.std.proofs.lemmas.List.{take_all, take_more, map_push}
use Rattle.serde_json.specs.Data.{Data, array, no_items}
use Rattle.serde_json.specs.View.{view, items_of}
use Rattle.serde_json.specs.declared.value.Value.{Value, Array}
use Rattle.serde_json.proofs.Views.{view-Array}
use Rattle.plugin_messages.specs.Written.{array_of}

pub view-array_of : {A : Type 0} (write : A → Data) (xs : List A) (i : ℕ) (items : Vec Value Global) → map view items.items ≡ map write (take i xs) → length xs ≤ i → view (Array items) ≡ array_of write xs
unfolding array_of
view-array_of write xs i items same done = view-Array items ∙ ap (λ ds. array (items_of ds)) (same ∙ ap (map write) (take_all i xs done))

pub view_empty : (items : Vec Value Global) → items.items ≡ [] → view (Array items) ≡ array no_items
view_empty items e = view-Array items ∙ ap (λ vs. array (items_of (map view vs))) e

-- one item more
pub one_read : {A : Type 0} (of : Data → A) (vs : List Value) (i : ℕ) (v : Value) (x : A) (done : List A)
    → i < length vs → v ≡ get_or vs i v → x ≡ of (view v) → done ≡ map of (map view (take i vs)) → done ++ x ∷ [] ≡ map of (map view (take (i + 1) vs))
one_read of vs i v x done h here is e =
    rw (e, is, take_more vs i v h, map_push view (take i vs) (get_or vs i v), map_push of (map view (take i vs)) (view (get_or vs i v)), sym here) refl
