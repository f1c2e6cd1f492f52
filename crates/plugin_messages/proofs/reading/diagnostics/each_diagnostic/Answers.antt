use Rattle.std.proofs.Common.{◌<◌, length, arith}
use Rattle.std.proofs.lemmas.List.Elements.{All-push}
use Rattle.plugin_messages.specs.Diagnostics.{diagnostic_of}
use Rattle.plugin_messages.specs.Writable.{IsDiagnosticWritable}
use Rattle.plugin_messages.proofs.Arrays.{one_read}
use Rattle.plugin_messages.proofs.reading.diagnostics.each_diagnostic.Goals as goal

pub diagnostics-preserved : goal.diagnostics-preserved
diagnostics-preserved c =
    let more : c.diagnostics.item-index < length c.args.items.now = omega arith in
    rw c.in_ok-push.ensures (
      one_read diagnostic_of _ _ c.item-item.result c.in_ok-diagnostic.field-0 _ more c.item-item.is c.in_ok-diagnostic.ensures.diagnostic c.diagnostics.invariant.0,
      All-push IsDiagnosticWritable _ _ c.diagnostics.invariant.1 c.in_ok-diagnostic.ensures.writable,
    )
