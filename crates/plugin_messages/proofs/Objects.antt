-- How an object of rows and values is written.
use Rattle.std.proofs.Common.{◌≡◌, ℕ, ◌+◌, ◌<◌, ◌≤◌, List, [], ◌∷◌, map, length, get_or, drop, add-one, drop-cons, Option, refl, ap, arith}
use Rattle.std.proofs.Math.ListN.{drop_of_length-le}
use Rattle.serde_json.specs.Data.{Data, Members}
use Rattle.plugin_messages.specs.Rows.{Row}
use Rattle.plugin_messages.specs.Written.{with_fields, put_if, labelled}

-- one value more
pub row_put : {R : Type 0} (seen : R → Row) (rows : List R) (i : ℕ) (d : R) (value : Option Data) (values : List (Option Data)) (ms : Members)
    → i < length rows
    → with_fields (labelled (map seen (drop i rows)) (value ∷ values)) ms ≡ with_fields (labelled (map seen (drop (i + 1) rows)) values) (put_if (seen (get_or rows i d)).0 value ms)
row_put seen rows i d value values ms h = rw (add-one, drop-cons rows i d h) refl

no_values : (rows : List Row) → labelled rows [] ≡ []
no_values [] = refl
no_values (row ∷ rows) = refl

pub values_end : {V : Type 0} (shown : V → Option Data) (rows : List Row) (values : List V) (ms : Members) → length values ≡ 0 → with_fields (labelled rows (map shown values)) ms ≡ ms
values_end shown rows [] ms e = rw (no_values rows) refl
values_end shown rows (value ∷ values) ms e = absurd (omega arith)

pub rows_end : {R : Type 0} (seen : R → Row) (rows : List R) (i : ℕ) (values : List (Option Data)) (ms : Members)
    → length rows ≤ i → with_fields (labelled (map seen (drop i rows)) values) ms ≡ ms
rows_end seen rows i values ms h = ap (λ l. with_fields (labelled (map seen l) values) ms) (drop_of_length-le rows h)
