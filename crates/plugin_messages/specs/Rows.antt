-- this project's own, after swift-syntax: the labels of each object of a message, and what stands at them.
use Rattle.std.specs.Prelude.{ℕ, List, map}
use Rattle.plugin_messages.specs.declared.table.Sort.{Sort}
use Rattle.plugin_messages.specs.declared.table.Presence.{Presence}
use Rattle.plugin_messages.specs.declared.table.Shape.{Shape}
use Rattle.plugin_messages.specs.declared.table.Shape.TheVariants as shape
use Rattle.plugin_messages.specs.declared.table.TheConstants.{GREETING_ROWS, CAPABILITY_ROWS, FREESTANDING_ROWS, ATTACHED_ROWS, LOAD_ROWS, REPLY_ROWS, LOADING_ROWS, MACRO_ROWS, SYNTAX_ROWS, LOCATION_ROWS, DIAGNOSTIC_ROWS, NOTE_ROWS, POSITION_ROWS}

-- a label, what stands there, and whether it has to
abbrev pub Row : Type 0
Row = List ℕ × Sort × Presence

-- the rows of an object, in the order in which they are read
unfoldable pub rows_of : Shape → List Row
rows_of shape.Greeting = map (λ row. (row.0.now, row.1, row.2)) GREETING_ROWS.now
rows_of shape.Capability = map (λ row. (row.0.now, row.1, row.2)) CAPABILITY_ROWS.now
rows_of shape.Freestanding = map (λ row. (row.0.now, row.1, row.2)) FREESTANDING_ROWS.now
rows_of shape.Attached = map (λ row. (row.0.now, row.1, row.2)) ATTACHED_ROWS.now
rows_of shape.Load = map (λ row. (row.0.now, row.1, row.2)) LOAD_ROWS.now
rows_of shape.Reply = map (λ row. (row.0.now, row.1, row.2)) REPLY_ROWS.now
rows_of shape.Loading = map (λ row. (row.0.now, row.1, row.2)) LOADING_ROWS.now
rows_of shape.Macro = map (λ row. (row.0.now, row.1, row.2)) MACRO_ROWS.now
rows_of shape.Syntax = map (λ row. (row.0.now, row.1, row.2)) SYNTAX_ROWS.now
rows_of shape.Location = map (λ row. (row.0.now, row.1, row.2)) LOCATION_ROWS.now
rows_of shape.Diagnostic = map (λ row. (row.0.now, row.1, row.2)) DIAGNOSTIC_ROWS.now
rows_of shape.Note = map (λ row. (row.0.now, row.1, row.2)) NOTE_ROWS.now
rows_of shape.Position = map (λ row. (row.0.now, row.1, row.2)) POSITION_ROWS.now
