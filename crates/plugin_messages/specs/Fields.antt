-- this project's own, over RFC 8259: a field of an object, by its label. Null counts as absent.
use Rattle.std.specs.Prelude.{ℕ, ℤ, List, [], ◌∷◌, Option, Some, None, option_and_then, Result, Ok, Err, nat_lt, if◌then◌else◌}
use Rattle.serde_json.specs.Data.{Data, null, boolean, number, string, array, object, Items, no_items, item}
use Rattle.serde_json.specs.Find.{get, as_number, as_u64, as_i64, as_str}
use Rattle.unique_names.specs.declared.role.Role.{Role}
use Rattle.unique_names.specs.Roles.{role_of}
use Rattle.plugin_messages.specs.declared.request.SyntaxKind.{SyntaxKind}
use Rattle.plugin_messages.specs.declared.message.Severity.{Severity}
use Rattle.plugin_messages.specs.Tables.{kind_of, severity_of}
use Rattle.plugin_messages.specs.declared.message.Reason.{Reason}
use Rattle.plugin_messages.specs.declared.message.Reason.TheVariants.{BadField}

abbrev pub unless_null : Data → Option Data
unless_null null = None
unless_null (boolean b) = Some (boolean b)
unless_null (number n) = Some (number n)
unless_null (string s) = Some (string s)
unless_null (array ds) = Some (array ds)
unless_null (object ms) = Some (object ms)

unfoldable pub present : List ℕ → Data → Option Data
present label d = option_and_then unless_null (get label d)

abbrev pub found_or : {A : Type 0} → Reason → Option A → Result A Reason
found_or reason None = Err reason
found_or reason (Some x) = Ok x

abbrev pub or_bad : {A : Type 0} → List ℕ → Option A → Result A Reason
or_bad label = found_or (BadField label)

abbrev pub as_record : Data → Option Data
as_record null = None
as_record (boolean b) = None
as_record (number n) = None
as_record (string s) = None
as_record (array ds) = None
as_record (object ms) = Some (object ms)

-- a whole number that `serde_json` holds as such
unfoldable pub whole_below : ℕ → Data → Option ℕ
whole_below limit d = option_and_then (λ n. if nat_lt n limit then Some n else None) (option_and_then as_u64 (as_number d))

-- the items of an array
unfoldable pub list_of : Items → List Data
list_of no_items = []
list_of (item d ds) = d ∷ list_of ds

unfoldable pub version_in : Data → Option ℤ
version_in d = option_and_then as_i64 (as_number d)

-- the role, the kind and the severity of this text
unfoldable pub role_in : Data → Option Role
role_in d = option_and_then role_of (as_str d)

unfoldable pub kind_in : Data → Option SyntaxKind
kind_in d = option_and_then kind_of (as_str d)

unfoldable pub severity_in : Data → Option Severity
severity_in d = option_and_then severity_of (as_str d)
