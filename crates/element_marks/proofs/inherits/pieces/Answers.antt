use Rattle.std.proofs.Common.{◌≡◌, ◌∙◌, ◌<◌, ◌++◌, [], ap, drop, length}
use Rattle.element_marks.specs.Inherits.{pieces, with_piece}
use Rattle.element_marks.proofs.Ends.{not_empty}
use Rattle.element_marks.proofs.Walks.{pieces_further}
use Rattle.element_marks.proofs.inherits.pieces.Goals as goal

pub pieces-preserved : goal.pieces-preserved
pieces-preserved c =
    let left : c.behind-rest.result.now ≡ drop 1 (drop c.length_before-length.result c.pieces.rest.now) = c.behind-rest.ensures ∙ ap (drop 1) c.behind.ensures in
    let some : 0 < length c.pieces.rest.now = not_empty (length c.pieces.rest.now) c.pieces-test.ensures in
    ap (λ l. c.push_piece.new.types.items ++ pieces 0 l) left
    ∙ ap (λ types. types ++ pieces 0 (drop 1 (drop c.length_before-length.result c.pieces.rest.now))) (c.in_ok-push_piece.ensures ∙ ap (λ named. c.pieces.types.items ++ with_piece named []) c.named_type.ensures)
    ∙ pieces_further c.pieces.types.items c.pieces.rest.now c.length_before-length.result some c.length_before-length.ensures.value
    ∙ c.pieces.invariant
