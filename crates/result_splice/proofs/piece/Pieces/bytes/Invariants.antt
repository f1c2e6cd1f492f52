use Rattle.std.proofs.Common.{◌≡◌, ◌++◌, drop}
use Rattle.result_splice.specs.Pieces.{pieces_bytes}
use Rattle.result_splice.proofs.piece.Pieces.bytes.Given as goal

abbrev pub invariant-parts : goal.invariant-parts
invariant-parts l = l.bytes.items ++ pieces_bytes l.buffer (drop l.part-index l.part-items) ≡ pieces_bytes l.buffer l.part-items
