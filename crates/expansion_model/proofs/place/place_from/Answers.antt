use Rattle.expansion_model.proofs.Places.{column_small}
use Rattle.std.proofs.Common.{arith}
use Rattle.expansion_model.proofs.place.place_from.Goals as goal

pub overflow_add-column : goal.overflow_add-column
overflow_add-column c = omega (arith, column_small c.args.text.now c.bytes.at, c.bytes.invariant.2, c.requires.short)
