-- The labels of each table are ASCII and distinct, so each value is found again at its label.
use Rattle.std.proofs.Common.{◌≡◌, ℕ, List, [], ◌∷◌, Option, Some, None, Bool, true, false, not, ◌&&◌, refl, ap, ◌∙◌}
use Rattle.std.specs.Str.{IsUtf8, bytes_eq}
use Rattle.std.proofs.lemmas.Slice.Eq.{bytes_eq-Decides}
use Rattle.json.proofs.Printed.Utf8.{are_ascii, IsUtf8-are_ascii}
use Rattle.serde_json.specs.Data.{Data, Members, no_members, put}
use Rattle.serde_json.specs.Find.{get_member}
use Rattle.serde_json.proofs.Views.{get_member-put, get_member-put_other}
use Rattle.plugin_messages.specs.declared.table.Shape.{Shape}
use Rattle.plugin_messages.specs.declared.table.Shape.TheVariants as shape
use Rattle.plugin_messages.specs.Rows.{Row, rows_of}
use Rattle.plugin_messages.specs.Written.{Field, with_fields, put_if, labelled}
use Rattle.plugin_messages.proofs.Members.{EachField, EachLabel}
use Rattle.plugin_messages.specs.Writable.{WhereSome}

pub both : (a b : Bool) → (a && b) ≡ true → (a ≡ true) × (b ≡ true)
both true b e = (refl, e)
both false b e = cc

denied : (a : Bool) → not a ≡ true → a ≡ false
denied true e = cc
denied false e = refl

-- ---- a fact of each value

abbrev pub EachValue : (Data → Type 0) → List (Option Data) → Type 0
EachValue P [] = Unit {0}
EachValue P (value ∷ values) = WhereSome P value × EachValue P values

pub fields_each : (P : Data → Type 0) (rows : List Row) (values : List (Option Data)) → EachValue P values → EachField P (labelled rows values)
fields_each P [] values each = tt
fields_each P (row ∷ rows) [] each = tt
fields_each P (row ∷ rows) (value ∷ values) each = (each.0, fields_each P rows values each.1)

-- ---- ASCII

abbrev pub all_ascii : List Row → Bool
all_ascii [] = true
all_ascii (row ∷ rows) = are_ascii row.0 && all_ascii rows

pub rows_are_ascii : (s : Shape) → all_ascii (rows_of s) ≡ true
unfolding rows_of
rows_are_ascii shape.Greeting = refl
rows_are_ascii shape.Capability = refl
rows_are_ascii shape.Freestanding = refl
rows_are_ascii shape.Attached = refl
rows_are_ascii shape.Load = refl
rows_are_ascii shape.Reply = refl
rows_are_ascii shape.Loading = refl
rows_are_ascii shape.Macro = refl
rows_are_ascii shape.Syntax = refl
rows_are_ascii shape.Location = refl
rows_are_ascii shape.Diagnostic = refl
rows_are_ascii shape.Note = refl
rows_are_ascii shape.Position = refl

pub labels_are_utf8 : (rows : List Row) (values : List (Option Data)) → all_ascii rows ≡ true → EachLabel IsUtf8 (labelled rows values)
labels_are_utf8 [] values e = tt
labels_are_utf8 (row ∷ rows) [] e = tt
labels_are_utf8 (row ∷ rows) (value ∷ values) e = let p = both (are_ascii row.0) (all_ascii rows) e in (IsUtf8-are_ascii row.0 p.0, labels_are_utf8 rows values p.1)

-- ---- distinct

abbrev pub is_new : List ℕ → List Row → Bool
is_new k [] = true
is_new k (row ∷ rows) = not (bytes_eq k row.0) && (not (bytes_eq row.0 k) && is_new k rows)

abbrev pub are_distinct : List Row → Bool
are_distinct [] = true
are_distinct (row ∷ rows) = is_new row.0 rows && are_distinct rows

pub rows_are_distinct : (s : Shape) → are_distinct (rows_of s) ≡ true
unfolding rows_of
rows_are_distinct shape.Greeting = refl
rows_are_distinct shape.Capability = refl
rows_are_distinct shape.Freestanding = refl
rows_are_distinct shape.Attached = refl
rows_are_distinct shape.Load = refl
rows_are_distinct shape.Reply = refl
rows_are_distinct shape.Loading = refl
rows_are_distinct shape.Macro = refl
rows_are_distinct shape.Syntax = refl
rows_are_distinct shape.Location = refl
rows_are_distinct shape.Diagnostic = refl
rows_are_distinct shape.Note = refl
rows_are_distinct shape.Position = refl

-- ---- looking into an object of many fields

abbrev pub chosen : Bool → Option Data → Option Data → Option Data
chosen true None o = o
chosen true (Some d) o = Some d
chosen false new o = o

abbrev pub lookup : List ℕ → List Field → Option Data → Option Data
lookup k [] o = o
lookup k (field ∷ fields) o = lookup k fields (chosen (bytes_eq k field.0) field.1 o)

one_put : (k l : List ℕ) (o : Option Data) (ms : Members) → get_member k (put_if l o ms) ≡ chosen (bytes_eq k l) o (get_member k ms)
one_put k l None ms = kept (bytes_eq k l) (get_member k ms)
  where
    kept : (b : Bool) (o : Option Data) → o ≡ chosen b None o
    kept true o = refl
    kept false o = refl
one_put k l (Some d) ms = by (bytes_eq k l) (bytes_eq-Decides k l).0 (bytes_eq-Decides k l).1
  where
    by : (b : Bool) → (b ≡ true → k ≡ l) → (k ≡ l → b ≡ true) → get_member k (put l d ms) ≡ chosen b (Some d) (get_member k ms)
    by true same back = rw (same refl) (get_member-put l d ms)
    by false same back = get_member-put_other k l d ms (λ e. let impossible : false ≡ true = back e in cc)

pub member_found : (k : List ℕ) (fields : List Field) (ms : Members) → get_member k (with_fields fields ms) ≡ lookup k fields (get_member k ms)
member_found k [] ms = refl
member_found k (field ∷ fields) ms = member_found k fields (put_if field.0 field.1 ms) ∙ ap (lookup k fields) (one_put k field.0 field.1 ms)

not_among : (k : List ℕ) (rows : List Row) (values : List (Option Data)) (o : Option Data) → is_new k rows ≡ true → lookup k (labelled rows values) o ≡ o
not_among k [] values o e = refl
not_among k (row ∷ rows) [] o e = refl
not_among k (row ∷ rows) (value ∷ values) o e =
    let p = both (not (bytes_eq k row.0)) (not (bytes_eq row.0 k) && is_new k rows) e in
    ap (λ b. lookup k (labelled rows values) (chosen b value o)) (denied (bytes_eq k row.0) p.0) ∙ not_among k rows values o (both (not (bytes_eq row.0 k)) (is_new k rows) p.1).1

-- no label of these rows has a value yet
abbrev pub AreAbsent : List Row → Members → Type 0
AreAbsent [] ms = Unit {0}
AreAbsent (row ∷ rows) ms = (get_member row.0 ms ≡ None) × AreAbsent rows ms

pub none_yet : (rows : List Row) → AreAbsent rows no_members
none_yet [] = tt
none_yet (row ∷ rows) = (refl, none_yet rows)

pub still_absent : (k : List ℕ) (value : Option Data) (rows : List Row) (ms : Members) → is_new k rows ≡ true → AreAbsent rows ms → AreAbsent rows (put_if k value ms)
still_absent k value [] ms e absent = tt
still_absent k value (row ∷ rows) ms e absent =
    let p = both (not (bytes_eq k row.0)) (not (bytes_eq row.0 k) && is_new k rows) e in
    let q = both (not (bytes_eq row.0 k)) (is_new k rows) p.1 in
    (one_put row.0 k value ms ∙ (ap (λ b. chosen b value (get_member row.0 ms)) (denied (bytes_eq row.0 k) q.0) ∙ absent.0), still_absent k value rows ms q.1 absent.1)

-- the first row's value is found at its label
pub first_found : (k : List ℕ) (value : Option Data) (rows : List Row) (values : List (Option Data)) (ms : Members)
    → is_new k rows ≡ true → get_member k ms ≡ None → get_member k (with_fields (labelled rows values) (put_if k value ms)) ≡ value
first_found k value rows values ms e none =
    member_found k (labelled rows values) (put_if k value ms)
    ∙ (not_among k rows values (get_member k (put_if k value ms)) e
    ∙ (one_put k k value ms ∙ (ap (λ b. chosen b value (get_member k ms)) ((bytes_eq-Decides k k).1 refl) ∙ (ap (chosen true value) none ∙ itself value))))
  where
    itself : (o : Option Data) → chosen true o None ≡ o
    itself None = refl
    itself (Some d) = refl
