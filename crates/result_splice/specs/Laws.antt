-- Laws of edits: this project's own.
use Rattle.std.specs.Prelude.{◌≡◌, ℕ, List, length}
use Rattle.result_splice.specs.declared.edit.Edit.{Edit}
use Rattle.result_splice.specs.Edits.{ordered, edited_text, CanBeMade, IsEdited}
use Rattle.result_splice.specs.Pieces.{pieces, pieces_bytes, kept_spans, replaced_spans, in_turn, Tiles}

-- the pieces are the edited text
abbrev pub PiecesAreTheText : Type 0
PiecesAreTheText = (text : List ℕ) (edits : List Edit) → pieces_bytes text (pieces text edits) ≡ edited_text text edits

-- What is kept and what the edits replace, in turn, is the text: each of its bytes once, and in order.
abbrev pub KeepsTheRest : Type 0
KeepsTheRest = (text : List ℕ) (edits : List Edit) → CanBeMade (length text) edits
    → Tiles 0 (in_turn (kept_spans (pieces text edits)) (replaced_spans (ordered edits))) (length text)

abbrev pub MakesEdits : Type 0
MakesEdits = (text : List ℕ) (edits : List Edit) → CanBeMade (length text) edits → IsEdited text edits (edited_text text edits)
