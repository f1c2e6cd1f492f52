-- this project's own, after swift-syntax: the labels of each object of a message, spelled apart from the tables that the definitions share with the code.
use Rattle.std.specs.Prelude.{◌≡◌, ℕ, ◌+◌, List, [], ◌∷◌, codes}
use Rattle.serde_json.specs.Data.{Data}
use Rattle.plugin_messages.specs.declared.table.Sort.TheVariants as sort
use Rattle.plugin_messages.specs.declared.table.Presence.TheVariants.{Required, Optional}
use Rattle.plugin_messages.specs.declared.table.Shape.{Shape}
use Rattle.plugin_messages.specs.declared.table.Shape.TheVariants as shape
use Rattle.plugin_messages.specs.declared.table.TheConstants.{DEEPEST}
use Rattle.plugin_messages.specs.Rows.{Row, rows_of}
use Rattle.plugin_messages.specs.Checked.{rows_checked, object_checked}

abbrev pub tables : Shape → List Row
tables shape.Greeting =
    (codes "capability", sort.Object shape.Capability, Required) ∷ []
tables shape.Capability =
    (codes "protocolVersion", sort.Version, Required) ∷ []
tables shape.Freestanding =
    (codes "macro", sort.Object shape.Macro, Required) ∷
    (codes "macroRole", sort.Role, Required) ∷
    (codes "discriminator", sort.Text, Required) ∷
    (codes "syntax", sort.Object shape.Syntax, Required) ∷ []
tables shape.Attached =
    (codes "macro", sort.Object shape.Macro, Required) ∷
    (codes "macroRole", sort.Role, Required) ∷
    (codes "discriminator", sort.Text, Required) ∷
    (codes "attributeSyntax", sort.Object shape.Syntax, Required) ∷
    (codes "declSyntax", sort.Object shape.Syntax, Required) ∷
    (codes "parentDeclSyntax", sort.Object shape.Syntax, Optional) ∷
    (codes "extendedTypeSyntax", sort.Object shape.Syntax, Optional) ∷
    (codes "conformanceListSyntax", sort.Object shape.Syntax, Optional) ∷ []
tables shape.Load =
    (codes "libraryPath", sort.Text, Required) ∷
    (codes "moduleName", sort.Text, Required) ∷ []
tables shape.Reply =
    (codes "expandedSource", sort.Text, Optional) ∷
    (codes "diagnostics", sort.Objects shape.Diagnostic, Required) ∷ []
tables shape.Loading =
    (codes "loaded", sort.Flag, Required) ∷
    (codes "diagnostics", sort.Objects shape.Diagnostic, Required) ∷ []
tables shape.Macro =
    (codes "moduleName", sort.Text, Required) ∷
    (codes "typeName", sort.Text, Required) ∷
    (codes "name", sort.Text, Required) ∷ []
tables shape.Syntax =
    (codes "kind", sort.Kind, Required) ∷
    (codes "source", sort.Text, Required) ∷
    (codes "location", sort.Object shape.Location, Optional) ∷ []
tables shape.Location =
    (codes "fileID", sort.Text, Required) ∷
    (codes "fileName", sort.Text, Required) ∷
    (codes "offset", sort.Small, Required) ∷
    (codes "line", sort.Small, Required) ∷
    (codes "column", sort.Small, Required) ∷ []
tables shape.Diagnostic =
    (codes "message", sort.Text, Required) ∷
    (codes "severity", sort.Severity, Required) ∷
    (codes "position", sort.Object shape.Position, Required) ∷
    (codes "highlights", sort.Array, Required) ∷
    (codes "notes", sort.Objects shape.Note, Required) ∷
    (codes "fixIts", sort.Array, Required) ∷ []
tables shape.Note =
    (codes "message", sort.Text, Required) ∷
    (codes "position", sort.Object shape.Position, Required) ∷ []
tables shape.Position =
    (codes "fileName", sort.Text, Required) ∷
    (codes "offset", sort.Offset, Required) ∷ []

abbrev pub TablesAreSpelled : Type 0
TablesAreSpelled = (s : Shape) → rows_of s ≡ tables s

-- no table nests deeper than objects are looked into
abbrev pub ObjectsAreReadWhole : Type 0
ObjectsAreReadWhole = (more : ℕ) (s : Shape) (d : Data) → rows_checked (object_checked (DEEPEST + more)) (rows_of s) d ≡ rows_checked (object_checked DEEPEST) (rows_of s) d
