use Rattle.std.proofs.Common.{◌≡◌, map, take}
use Rattle.serde_json.specs.View.{view}
use Rattle.plugin_messages.specs.Written.{note_data}
use Rattle.plugin_messages.proofs.writing.reply.notes.Given as goal

abbrev pub invariant-notes : goal.invariant-notes
invariant-notes l = map view l.items.items ≡ map note_data (take l.item-index l.notes)
