use Rattle.std.proofs.Common.{◌≤◌, length, arith}
use Rattle.plugin_messages.specs.Written.{note_data}
use Rattle.plugin_messages.proofs.Arrays.{view-array_of}
use Rattle.plugin_messages.proofs.writing.reply.notes.Goals as goal

pub returns : goal.returns
returns c =
    let done : length c.args.notes.now ≤ c.notes.item-index = omega arith in
    view-array_of note_data c.args.notes.now c.notes.item-index c.notes.items c.notes.invariant done
