-- this project's own, over RFC 8259: the JSON values that messages are written as. Absent optionals are left out, keys come in the order of their bytes.
use Rattle.std.specs.Prelude.{ℕ, ℤ, List, [], ◌∷◌, map, Option, Some, None, option_map}
use Rattle.serde_json.specs.Data.{Data, number, string, array, object, unsigned, no_items, Members, no_members, put}
use Rattle.serde_json.specs.Find.{of_integer}
use Rattle.serde_json.specs.View.{items_of}
use Rattle.plugin_messages.specs.declared.request.Location.{Location}
use Rattle.plugin_messages.specs.declared.request.Syntax.{Syntax}
use Rattle.plugin_messages.specs.declared.request.MacroRef.{MacroRef}
use Rattle.plugin_messages.specs.declared.message.Diagnostic.{Diagnostic}
use Rattle.plugin_messages.specs.declared.message.Note.{Note}
use Rattle.plugin_messages.specs.declared.table.Shape.{Shape}
use Rattle.plugin_messages.specs.declared.table.Shape.TheVariants as shape
use Rattle.plugin_messages.specs.Tables.{kind_text, severity_text}
use Rattle.plugin_messages.specs.Rows.{Row, rows_of}

-- a label and its value, where it has one
abbrev pub Field : Type 0
Field = List ℕ × Option Data

abbrev pub put_if : List ℕ → Option Data → Members → Members
put_if label None ms = ms
put_if label (Some d) ms = put label d ms

abbrev pub with_fields : List Field → Members → Members
with_fields [] ms = ms
with_fields (field ∷ fields) ms = with_fields fields (put_if field.0 field.1 ms)

-- the object of these fields
abbrev pub object_of : List Field → Data
object_of fields = object (with_fields fields no_members)

-- each row's label, and its value
abbrev pub labelled : List Row → List (Option Data) → List Field
labelled [] values = []
labelled (row ∷ rows) [] = []
labelled (row ∷ rows) (value ∷ values) = (row.0, value) ∷ labelled rows values

-- the object of these values, in the order of its rows
unfoldable pub object_data : Shape → List (Option Data) → Data
object_data shape values = object_of (labelled (rows_of shape) values)

unfoldable pub array_of : {A : Type 0} → (A → Data) → List A → Data
array_of write xs = array (items_of (map write xs))

abbrev pub location_values : Location → List (Option Data)
location_values location =
    Some (string location.file_id) ∷
    Some (string location.file_name) ∷
    Some (number (unsigned location.offset)) ∷
    Some (number (unsigned location.line)) ∷
    Some (number (unsigned location.column)) ∷ []

abbrev pub location_data : Location → Data
location_data location = object_data shape.Location (location_values location)

abbrev pub syntax_values : Syntax → List (Option Data)
syntax_values syntax =
    Some (string (kind_text syntax.kind)) ∷
    Some (string syntax.source) ∷
    option_map location_data syntax.location ∷ []

abbrev pub syntax_data : Syntax → Data
syntax_data syntax = object_data shape.Syntax (syntax_values syntax)

abbrev pub macro_values : MacroRef → List (Option Data)
macro_values target = Some (string target.module) ∷ Some (string target.type_name) ∷ Some (string target.name) ∷ []

abbrev pub macro_data : MacroRef → Data
macro_data target = object_data shape.Macro (macro_values target)

-- the version that a side announces
abbrev pub version_data : ℤ → Data
version_data version = object_data shape.Capability (Some (number (of_integer version)) ∷ [])

abbrev pub capability_data : ℤ → Data
capability_data version = object_data shape.Greeting (Some (version_data version) ∷ [])

abbrev pub position_data : List ℕ → ℕ → Data
position_data file_name offset = object_data shape.Position (Some (string file_name) ∷ Some (number (unsigned offset)) ∷ [])

abbrev pub note_values : Note → List (Option Data)
note_values note = Some (string note.message) ∷ Some (position_data note.file_name note.offset) ∷ []

abbrev pub note_data : Note → Data
note_data note = object_data shape.Note (note_values note)

abbrev pub diagnostic_values : Diagnostic → List (Option Data)
diagnostic_values diagnostic =
    Some (string diagnostic.message) ∷
    Some (string (severity_text diagnostic.severity)) ∷
    Some (position_data diagnostic.file_name diagnostic.offset) ∷
    Some (array no_items) ∷
    Some (array_of note_data diagnostic.notes) ∷
    Some (array no_items) ∷ []

abbrev pub diagnostic_data : Diagnostic → Data
diagnostic_data diagnostic = object_data shape.Diagnostic (diagnostic_values diagnostic)

-- a message: its case, and the object of its labels
unfoldable pub case_data : List ℕ → Data → Data
case_data name labels = object_of ((name, Some labels) ∷ [])
