use Rattle.std.proofs.Common.{◌≡◌, ◌++◌, length}
use Rattle.std.specs.Vec.Iter.{into_iter_items}
use Rattle.result_splice.specs.Pieces.{pieces_between}
use Rattle.result_splice.proofs.piece.apply.Given as goal

abbrev pub invariant-edits : goal.invariant-edits
invariant-edits l = l.parts.items ++ pieces_between l.from (length l.buffer) (into_iter_items l.edit-iterator) ≡ pieces_between 0 (length l.buffer) (into_iter_items l.initial.edit-iterator)
