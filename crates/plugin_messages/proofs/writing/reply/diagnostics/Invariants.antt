use Rattle.std.proofs.Common.{◌≡◌, map, take}
use Rattle.serde_json.specs.View.{view}
use Rattle.plugin_messages.specs.Written.{diagnostic_data}
use Rattle.plugin_messages.proofs.writing.reply.diagnostics.Given as goal

abbrev pub invariant-diagnostics : goal.invariant-diagnostics
invariant-diagnostics l = map view l.items.items ≡ map diagnostic_data (take l.item-index l.diagnostics)
