-- this project's own, over RFC 8259: the first reason against an object of a message, in the order of its rows, inward before the next row.
use Rattle.std.specs.Prelude.{ℕ, zero, suc, ◌^◌, List, [], ◌∷◌, Bool, true, false, is_some, Option, Some, None, Result, Ok, Err, ⊤}
use Rattle.serde_json.specs.Data.{Data}
use Rattle.serde_json.specs.Find.{as_str, as_bool, as_array}
use Rattle.plugin_messages.specs.declared.message.Reason.{Reason}
use Rattle.plugin_messages.specs.declared.message.Reason.TheVariants.{BadField}
use Rattle.plugin_messages.specs.declared.table.Sort.{Sort}
use Rattle.plugin_messages.specs.declared.table.Sort.TheVariants as sort
use Rattle.plugin_messages.specs.declared.table.Presence.{Presence}
use Rattle.plugin_messages.specs.declared.table.Presence.TheVariants.{Required, Optional}
use Rattle.plugin_messages.specs.declared.table.Shape.{Shape}
use Rattle.plugin_messages.specs.declared.table.TheConstants.{DEEPEST}
use Rattle.plugin_messages.specs.Answers.{and_then}
use Rattle.plugin_messages.specs.Fields.{present, or_bad, as_record, whole_below, list_of, version_in, role_in, kind_in, severity_in}
use Rattle.plugin_messages.specs.Rows.{Row, rows_of}

abbrev pub Checked : Type 0
Checked = Result ⊤ Reason

abbrev pub passed : List ℕ → Bool → Checked
passed label true = Ok tt
passed label false = Err (BadField label)

-- one after another
unfoldable pub all_checked : {A : Type 0} → (A → Checked) → List A → Checked
all_checked check [] = Ok tt
all_checked check (x ∷ xs) = and_then (check x) (λ _. all_checked check xs)

-- a value at a label; `inner` looks into objects
unfoldable pub value_checked : (Shape → List ℕ → Data → Checked) → Sort → List ℕ → Data → Checked
value_checked inner sort.Text label d = passed label (is_some (as_str d))
value_checked inner sort.Flag label d = passed label (is_some (as_bool d))
value_checked inner sort.Small label d = passed label (is_some (whole_below (2 ^ 32) d))
value_checked inner sort.Offset label d = passed label (is_some (whole_below (2 ^ 63) d))
value_checked inner sort.Version label d = passed label (is_some (version_in d))
value_checked inner sort.Role label d = passed label (is_some (role_in d))
value_checked inner sort.Kind label d = passed label (is_some (kind_in d))
value_checked inner sort.Severity label d = passed label (is_some (severity_in d))
value_checked inner sort.Array label d = passed label (is_some (as_array d))
value_checked inner (sort.Object shape) label d = inner shape label d
value_checked inner (sort.Objects shape) label d = and_then (or_bad label (as_array d)) (λ items. all_checked (inner shape label) (list_of items))

abbrev pub absent_checked : Presence → List ℕ → Checked
absent_checked Required label = Err (BadField label)
absent_checked Optional label = Ok tt

-- a row's value, where it is there
abbrev pub found_checked : (Shape → List ℕ → Data → Checked) → Row → Option Data → Checked
found_checked inner row None = absent_checked row.2 row.0
found_checked inner row (Some d) = value_checked inner row.1 row.0 d

unfoldable pub rows_checked : (Shape → List ℕ → Data → Checked) → List Row → Data → Checked
rows_checked inner rows d = all_checked (λ row. found_checked inner row (present row.0 d)) rows

-- an object that stands at a label, and what is inside to this depth
unfoldable pub object_checked : ℕ → Shape → List ℕ → Data → Checked
object_checked zero shape label d = and_then (or_bad label (as_record d)) (λ _. Ok tt)
object_checked (suc depth) shape label d = and_then (or_bad label (as_record d)) (rows_checked (object_checked depth) (rows_of shape))

-- what the labels of a case spell, where they pass
abbrev pub checked_as : {A : Type 0} → Shape → Data → A → Result A Reason
checked_as shape d message = and_then (rows_checked (object_checked DEEPEST) (rows_of shape) d) (λ _. Ok message)
