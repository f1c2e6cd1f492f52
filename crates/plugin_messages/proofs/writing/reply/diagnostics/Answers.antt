use Rattle.std.proofs.Common.{◌≤◌, length, arith}
use Rattle.plugin_messages.specs.Written.{diagnostic_data}
use Rattle.plugin_messages.proofs.Arrays.{view-array_of}
use Rattle.plugin_messages.proofs.writing.reply.diagnostics.Goals as goal

pub returns : goal.returns
returns c =
    let done : length c.args.diagnostics.now ≤ c.diagnostics.item-index = omega arith in
    view-array_of diagnostic_data c.args.diagnostics.now c.diagnostics.item-index c.diagnostics.items c.diagnostics.invariant done
