use Rattle.std.proofs.Common.{◌≡◌, map, take}
use Rattle.std.specs.List.{All}
use Rattle.serde_json.specs.View.{view}
use Rattle.plugin_messages.specs.Diagnostics.{diagnostic_of}
use Rattle.plugin_messages.specs.Writable.{IsDiagnosticWritable}
use Rattle.plugin_messages.proofs.reading.diagnostics.each_diagnostic.Given as goal

abbrev pub invariant-diagnostics : goal.invariant-diagnostics
invariant-diagnostics l = (l.diagnostics.items ≡ map diagnostic_of (map view (take l.item-index l.items))) × All IsDiagnosticWritable l.diagnostics.items
