use Rattle.std.proofs.Common.{◌≡◌, map, take}
use Rattle.std.specs.List.{All}
use Rattle.serde_json.specs.View.{view}
use Rattle.plugin_messages.specs.Diagnostics.{note_of}
use Rattle.plugin_messages.specs.Writable.{IsNoteWritable}
use Rattle.plugin_messages.proofs.reading.diagnostics.notes.Given as goal

abbrev pub invariant-notes : goal.invariant-notes
invariant-notes l = (l.notes.items ≡ map note_of (map view (take l.item-index l.items))) × All IsNoteWritable l.notes.items
