-- What is written passes the check that it is read under, and its text is read as what it is.
use Rattle.std.proofs.Common.{◌≡◌, ℕ, suc, ◌<◌, ◌^◌, ℤ, pos, negsuc, List, [], ◌∷◌, map, Option, Some, None, option_map, option_and_then, Bool, true, nat_lt, if◌then◌else◌, Ok, refl, ap, ◌∙◌, arith}
use Rattle.std.proofs.lemmas.Bool.Decides.{Decides-ltb}
use Rattle.std.specs.Str.{IsUtf8}
use Rattle.std.specs.List.{All}
use Rattle.json.proofs.Printed.Utf8.{are_ascii, IsUtf8-are_ascii}
use Rattle.serde_json.specs.Data.{Data, Members, no_members, string, number, boolean, array, object, no_items, unsigned}
use Rattle.serde_json.specs.Find.{of_integer}
use Rattle.unique_names.specs.declared.role.Role.{Role}
use Rattle.unique_names.specs.declared.role.Role.TheVariants as role
use Rattle.unique_names.specs.Roles.{text_of}
use Rattle.plugin_messages.specs.declared.request.SyntaxKind.{SyntaxKind}
use Rattle.plugin_messages.specs.declared.request.SyntaxKind.TheVariants as kind
use Rattle.plugin_messages.specs.declared.message.Severity.{Severity}
use Rattle.plugin_messages.specs.declared.message.Severity.TheVariants as severity
use Rattle.plugin_messages.specs.declared.table.Sort.{Sort}
use Rattle.plugin_messages.specs.declared.table.Sort.TheVariants as sort
use Rattle.plugin_messages.specs.declared.table.Presence.TheVariants.{Optional}
use Rattle.plugin_messages.specs.declared.table.Shape.{Shape}
use Rattle.plugin_messages.specs.Answers.{and_then}
use Rattle.plugin_messages.specs.Tables.{kind_text, severity_text}
use Rattle.plugin_messages.specs.Fields.{present, unless_null, whole_below, version_in, role_in, kind_in, severity_in}
use Rattle.plugin_messages.specs.Rows.{Row, rows_of}
use Rattle.plugin_messages.specs.Checked.{Checked, absent_checked, found_checked, value_checked, all_checked, rows_checked, object_checked}
use Rattle.plugin_messages.specs.Writable.{WhereSome}
use Rattle.plugin_messages.specs.Written.{with_fields, put_if, labelled, object_data, array_of}
use Rattle.plugin_messages.specs.RoundTrip.{IsVersion}
use Rattle.plugin_messages.proofs.Checks.{list_of_items_of}
use Rattle.plugin_messages.proofs.Lookup.{EachValue, fields_each, labels_are_utf8, rows_are_ascii, is_new, are_distinct, rows_are_distinct, both, AreAbsent, none_yet, still_absent, first_found}
use Rattle.plugin_messages.proofs.Plain.{IsPlain, plain_object, plain_array, plain_empty, plain_text, plain_flag, plain_number, plain_integer}

-- a value of this sort, whose text nests at most n deep, and which passes where objects are looked into to this depth
pub record IsPassing (n depth : ℕ) (s : Sort) (d : Data) : Type 0 where
  pub plain : IsPlain n d
  pub there : unless_null d ≡ Some d
  pub passes : (label : List ℕ) → value_checked (object_checked depth) s label d ≡ Ok tt

abbrev pub IsRowPassing : ℕ → ℕ → Row → Option Data → Type 0
IsRowPassing n depth row None = absent_checked row.2 row.0 ≡ Ok tt
IsRowPassing n depth row (Some d) = IsPassing n depth row.1 d

-- the values of the rows, one for each
abbrev pub ArePassing : ℕ → ℕ → List Row → List (Option Data) → Type 0
ArePassing n depth [] [] = Unit {0}
ArePassing n depth [] (value ∷ values) = ⊥
ArePassing n depth (row ∷ rows) [] = ⊥
ArePassing n depth (row ∷ rows) (value ∷ values) = IsRowPassing n depth row value × ArePassing n depth rows values

plain_values : (n depth : ℕ) (rows : List Row) (values : List (Option Data)) → ArePassing n depth rows values → EachValue (IsPlain n) values
plain_values n depth [] [] each = tt
plain_values n depth [] (value ∷ values) each = absurd each
plain_values n depth (row ∷ rows) [] each = absurd each
plain_values n depth (row ∷ rows) (value ∷ values) each = (one value each.0, plain_values n depth rows values each.1)
  where
    one : (o : Option Data) → IsRowPassing n depth row o → WhereSome (IsPlain n) o
    one None p = tt
    one (Some d) p = p.plain

row_passes : (n depth : ℕ) (row : Row) (o : Option Data) → IsRowPassing n depth row o → found_checked (object_checked depth) row (option_and_then unless_null o) ≡ Ok tt
row_passes n depth row None p = p
row_passes n depth row (Some d) p = ap (found_checked (object_checked depth) row) p.there ∙ p.passes row.0

rows_pass : (n depth : ℕ) (rows : List Row) (values : List (Option Data)) (ms : Members) → are_distinct rows ≡ true → AreAbsent rows ms → ArePassing n depth rows values
    → rows_checked (object_checked depth) rows (object (with_fields (labelled rows values) ms)) ≡ Ok tt
unfolding rows_checked all_checked present
rows_pass n depth [] values ms e absent each = refl
rows_pass n depth (row ∷ rows) [] ms e absent each = absurd each
rows_pass n depth (row ∷ rows) (value ∷ values) ms e absent each =
    let p = both (is_new row.0 rows) (are_distinct rows) e in
    let here = first_found row.0 value rows values ms p.0 absent.0 in
    let whole : Members = with_fields (labelled rows values) (put_if row.0 value ms) in
    ap (λ o. and_then (found_checked (object_checked depth) row (option_and_then unless_null o)) (λ _. rows_checked (object_checked depth) rows (object whole))) here
    ∙ (ap (λ o. and_then o (λ _. rows_checked (object_checked depth) rows (object whole))) (row_passes n depth row value each.0)
    ∙ rows_pass n depth rows values (put_if row.0 value ms) p.1 (still_absent row.0 value rows ms p.0 absent.1) each.1)

pub values_pass : (n depth : ℕ) (s : Shape) (values : List (Option Data)) → ArePassing n depth (rows_of s) values → rows_checked (object_checked depth) (rows_of s) (object_data s values) ≡ Ok tt
unfolding object_data
values_pass n depth s values each = rows_pass n depth (rows_of s) values no_members (rows_are_distinct s) (none_yet (rows_of s)) each

-- an object of values that pass
pub object_passing : (n depth : ℕ) (s : Shape) (values : List (Option Data)) → ArePassing n depth (rows_of s) values → IsPassing (suc n) (suc depth) (sort.Object s) (object_data s values)
unfolding object_data value_checked object_checked
object_passing n depth s values each = record {
  plain = plain_object n (labelled (rows_of s) values) (labels_are_utf8 (rows_of s) values (rows_are_ascii s)) (fields_each (IsPlain n) (rows_of s) values (plain_values n depth (rows_of s) values each));
  there = refl;
  passes = λ label. values_pass n depth s values each;
}

pub plain_labels : (n depth : ℕ) (s : Shape) (values : List (Option Data)) → ArePassing n depth (rows_of s) values → IsPlain (suc n) (object_data s values)
plain_labels n depth s values each = (object_passing n depth s values each).plain

-- an optional value
pub passing_if : {A : Type 0} (P : A → Type 0) (n depth : ℕ) (label : List ℕ) (s : Sort) (write : A → Data) → ((x : A) → P x → IsPassing n depth s (write x)) → (o : Option A) → WhereSome P o
    → IsRowPassing n depth (label, s, Optional) (option_map write o)
passing_if P n depth label s write each None h = refl
passing_if P n depth label s write each (Some x) h = each x h

-- ---- the sorts

pub within : {A : Type 0} (n limit : ℕ) (x : A) → n < limit → (if nat_lt n limit then Some x else None) ≡ Some x
within n limit x h = ap (λ b. if b then Some x else None) ((Decides-ltb n limit).1 h)

pub text_passing : (n depth : ℕ) (t : List ℕ) → IsUtf8 t → IsPassing n depth sort.Text (string t)
unfolding value_checked
text_passing n depth t u = record { plain = plain_text n t u; there = refl; passes = λ label. refl }

pub flag_passing : (n depth : ℕ) (b : Bool) → IsPassing n depth sort.Flag (boolean b)
unfolding value_checked
flag_passing n depth b = record { plain = plain_flag n b; there = refl; passes = λ label. refl }

pub small_passing : (n depth x : ℕ) → x < 2 ^ 32 → IsPassing n depth sort.Small (number (unsigned x))
unfolding value_checked whole_below
small_passing n depth x h = record { plain = plain_number n x (omega arith); there = refl; passes = λ label. rw (within x (2 ^ 32) x h) refl }

pub offset_passing : (n depth x : ℕ) → x < 2 ^ 63 → IsPassing n depth sort.Offset (number (unsigned x))
unfolding value_checked whole_below
offset_passing n depth x h = record { plain = plain_number n x (omega arith); there = refl; passes = λ label. rw (within x (2 ^ 63) x h) refl }

pub version_read : (z : ℤ) → IsVersion z → version_in (number (of_integer z)) ≡ Some z
unfolding version_in
version_read (pos x) h = rw (within x (2 ^ 63) (pos x) h) refl
version_read (negsuc x) h = refl

pub version_there : (z : ℤ) → unless_null (number (of_integer z)) ≡ Some (number (of_integer z))
version_there (pos x) = refl
version_there (negsuc x) = refl

pub version_passing : (n depth : ℕ) (z : ℤ) → IsVersion z → IsPassing n depth sort.Version (number (of_integer z))
unfolding value_checked
version_passing n depth z h = record { plain = plain_integer n z h; there = version_there z; passes = λ label. rw (version_read z h) refl }

word_plain : (n : ℕ) (t : List ℕ) → are_ascii t ≡ true → IsPlain n (string t)
word_plain n t e = plain_text n t (IsUtf8-are_ascii t e)

role_is_ascii : (r : Role) → are_ascii (text_of r) ≡ true
role_is_ascii role.Expression = refl
role_is_ascii role.Declaration = refl
role_is_ascii role.Accessor = refl
role_is_ascii role.MemberAttribute = refl
role_is_ascii role.Member = refl
role_is_ascii role.Peer = refl
role_is_ascii role.Extension = refl

pub role_read : (r : Role) → role_in (string (text_of r)) ≡ Some r
unfolding role_in
role_read role.Expression = refl
role_read role.Declaration = refl
role_read role.Accessor = refl
role_read role.MemberAttribute = refl
role_read role.Member = refl
role_read role.Peer = refl
role_read role.Extension = refl

pub role_passing : (n depth : ℕ) (r : Role) → IsPassing n depth sort.Role (string (text_of r))
unfolding value_checked
role_passing n depth r = record { plain = word_plain n (text_of r) (role_is_ascii r); there = refl; passes = λ label. rw (role_read r) refl }

kind_is_ascii : (k : SyntaxKind) → are_ascii (kind_text k) ≡ true
kind_is_ascii kind.Declaration = refl
kind_is_ascii kind.Statement = refl
kind_is_ascii kind.Expression = refl
kind_is_ascii kind.TypeName = refl
kind_is_ascii kind.Pattern = refl
kind_is_ascii kind.Attribute = refl

pub kind_read : (k : SyntaxKind) → kind_in (string (kind_text k)) ≡ Some k
unfolding kind_in
kind_read kind.Declaration = refl
kind_read kind.Statement = refl
kind_read kind.Expression = refl
kind_read kind.TypeName = refl
kind_read kind.Pattern = refl
kind_read kind.Attribute = refl

pub kind_passing : (n depth : ℕ) (k : SyntaxKind) → IsPassing n depth sort.Kind (string (kind_text k))
unfolding value_checked
kind_passing n depth k = record { plain = word_plain n (kind_text k) (kind_is_ascii k); there = refl; passes = λ label. rw (kind_read k) refl }

severity_is_ascii : (s : Severity) → are_ascii (severity_text s) ≡ true
severity_is_ascii severity.Error = refl
severity_is_ascii severity.Warning = refl
severity_is_ascii severity.Remark = refl
severity_is_ascii severity.Note = refl

pub severity_read : (s : Severity) → severity_in (string (severity_text s)) ≡ Some s
unfolding severity_in
severity_read severity.Error = refl
severity_read severity.Warning = refl
severity_read severity.Remark = refl
severity_read severity.Note = refl

pub severity_passing : (n depth : ℕ) (s : Severity) → IsPassing n depth sort.Severity (string (severity_text s))
unfolding value_checked
severity_passing n depth s = record { plain = word_plain n (severity_text s) (severity_is_ascii s); there = refl; passes = λ label. rw (severity_read s) refl }

pub empty_passing : (n depth : ℕ) → IsPassing (suc n) depth sort.Array (array no_items)
unfolding value_checked
empty_passing n depth = record { plain = plain_empty n; there = refl; passes = λ label. refl }

all_pass : {A : Type 0} (P : A → Type 0) (check : Data → Checked) (write : A → Data) → ((x : A) → P x → check (write x) ≡ Ok tt) → (xs : List A) → All P xs → all_checked check (map write xs) ≡ Ok tt
unfolding all_checked
all_pass P check write each [] all = refl
all_pass P check write each (x ∷ xs) all = rw (each x (all 0 x (omega arith)), all_pass P check write each xs (λ k d h. all (suc k) d (omega arith))) refl

-- an array of objects
pub objects_passing : {A : Type 0} (P : A → Type 0) (n depth : ℕ) (s : Shape) (write : A → Data) → ((x : A) → P x → IsPassing n depth (sort.Object s) (write x)) → (xs : List A) → All P xs
    → IsPassing (suc n) depth (sort.Objects s) (array_of write xs)
unfolding value_checked array_of
objects_passing P n depth s write each xs all = record {
  plain = plain_array P n write (λ x h. (each x h).plain) xs all;
  there = refl;
  passes = λ label. rw (list_of_items_of (map write xs)) (all_pass P (object_checked depth s label) write (λ x h. (each x h).passes label) xs all);
}
