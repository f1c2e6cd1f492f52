-- this project's own, over RFC 8259: the value at a label of an object that passed its check. Where the rows say that it is there it is; else what stands here in its place is never read.
use Rattle.std.specs.Prelude.{ℕ, ℤ, pos, ◌^◌, List, [], Bool, false, Option, Some, None, option_and_then}
use Rattle.serde_json.specs.Data.{Data, no_items}
use Rattle.serde_json.specs.Find.{as_str, as_bool, as_array}
use Rattle.unique_names.specs.declared.role.Role.{Role}
use Rattle.unique_names.specs.declared.role.Role.TheVariants.{Expression}
use Rattle.plugin_messages.specs.declared.request.SyntaxKind.{SyntaxKind}
use Rattle.plugin_messages.specs.declared.request.SyntaxKind.TheVariants.{Declaration}
use Rattle.plugin_messages.specs.declared.message.Severity.{Severity}
use Rattle.plugin_messages.specs.declared.message.Severity.TheVariants.{Error}
use Rattle.plugin_messages.specs.Fields.{present, whole_below, list_of, version_in, role_in, kind_in, severity_in}

abbrev pub given : {A : Type 0} → A → Option A → A
given x None = x
given x (Some y) = y

-- the value at a label, as `take` sees it
unfoldable pub taken : {A : Type 0} → (Data → Option A) → A → List ℕ → Data → A
taken take other label d = given other (option_and_then take (present label d))

abbrev pub text_at : List ℕ → Data → List ℕ
text_at = taken as_str []

abbrev pub flag_at : List ℕ → Data → Bool
flag_at = taken as_bool false

abbrev pub small_at : List ℕ → Data → ℕ
small_at = taken (whole_below (2 ^ 32)) 0

abbrev pub offset_at : List ℕ → Data → ℕ
offset_at = taken (whole_below (2 ^ 63)) 0

abbrev pub version_at : List ℕ → Data → ℤ
version_at = taken version_in (pos 0)

abbrev pub role_at : List ℕ → Data → Role
role_at = taken role_in Expression

abbrev pub kind_at : List ℕ → Data → SyntaxKind
kind_at = taken kind_in Declaration

abbrev pub severity_at : List ℕ → Data → Severity
severity_at = taken severity_in Error

unfoldable pub text_if : List ℕ → Data → Option (List ℕ)
text_if label d = option_and_then as_str (present label d)

-- the object at a label
unfoldable pub inside : List ℕ → Data → Data
inside label d = given d (present label d)

-- the items of the array at a label
unfoldable pub items_at : List ℕ → Data → List Data
items_at label d = list_of (taken as_array no_items label d)
