-- this project's own, after swift-syntax: diagnostics and their notes, whose labels passed their check.
use Rattle.std.specs.Prelude.{List, map}
use Rattle.serde_json.specs.Data.{Data}
use Rattle.plugin_messages.specs.declared.message.Diagnostic.{Diagnostic}
use Rattle.plugin_messages.specs.declared.message.Note.{Note}
use Rattle.plugin_messages.specs.declared.labels.TheConstants.{MESSAGE, SEVERITY, POSITION, FILE_NAME, OFFSET, NOTES, DIAGNOSTICS}
use Rattle.plugin_messages.specs.Taken.{text_at, offset_at, severity_at, inside, items_at}

unfoldable pub note_of : Data → Note
note_of d = record {
  message = text_at MESSAGE.now d;
  file_name = text_at FILE_NAME.now (inside POSITION.now d);
  offset = offset_at OFFSET.now (inside POSITION.now d);
}

unfoldable pub diagnostic_of : Data → Diagnostic
diagnostic_of d = record {
  message = text_at MESSAGE.now d;
  severity = severity_at SEVERITY.now d;
  file_name = text_at FILE_NAME.now (inside POSITION.now d);
  offset = offset_at OFFSET.now (inside POSITION.now d);
  notes = map note_of (items_at NOTES.now d);
}

unfoldable pub diagnostics_of : Data → List Diagnostic
diagnostics_of d = map diagnostic_of (items_at DIAGNOSTICS.now d)
