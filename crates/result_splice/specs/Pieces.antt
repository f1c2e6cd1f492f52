-- What an edited text is made of: this project's own.
use Rattle.std.specs.Prelude.{◌≡◌, ℕ, ◌≤◌, List, [], ◌∷◌, ◌++◌, length, slice_range}
use Rattle.swift_base.specs.declared.place.Span.{Span}
use Rattle.result_splice.specs.declared.edit.Edit.{Edit}
use Rattle.result_splice.specs.declared.piece.PieceOf.{PieceOf}
use Rattle.result_splice.specs.declared.piece.PieceOf.TheVariants.{Kept, Fresh}
use Rattle.result_splice.specs.Edits.{ordered}

abbrev pub span : ℕ → ℕ → Span
span from to = record { start = from; end = to }

-- Before each edit and behind the last one stands what is kept, which may have no bytes.
abbrev pub pieces_between : ℕ → ℕ → List Edit → List PieceOf
pieces_between from to [] = Kept (span from to) ∷ []
pieces_between from to (edit ∷ edits) = Kept (span from edit.start) ∷ Fresh edit.bytes ∷ pieces_between edit.end to edits

-- the pieces of the text with all edits, which may be in any order
abbrev pub pieces : List ℕ → List Edit → List PieceOf
pieces text edits = pieces_between 0 (length text) (ordered edits)

abbrev pub piece_bytes : List ℕ → PieceOf → List ℕ
piece_bytes text (Kept span) = slice_range text span.start span.end
piece_bytes text (Fresh bytes) = bytes

-- the pieces' bytes, joined
abbrev pub pieces_bytes : List ℕ → List PieceOf → List ℕ
pieces_bytes text [] = []
pieces_bytes text (piece ∷ pieces) = piece_bytes text piece ++ pieces_bytes text pieces

-- the spans that are kept
abbrev pub kept_spans : List PieceOf → List Span
kept_spans [] = []
kept_spans (Kept span ∷ pieces) = span ∷ kept_spans pieces
kept_spans (Fresh bytes ∷ pieces) = kept_spans pieces

-- the spans that are replaced
abbrev pub replaced_spans : List Edit → List Span
replaced_spans [] = []
replaced_spans (edit ∷ edits) = span edit.start edit.end ∷ replaced_spans edits

-- one of the first, one of the second, and so on
abbrev pub in_turn : List Span → List Span → List Span
in_turn [] others = others
in_turn (one ∷ ones) [] = one ∷ ones
in_turn (one ∷ ones) (other ∷ others) = one ∷ other ∷ in_turn ones others

-- spans that have each byte between two places once, and in order
abbrev pub Tiles : ℕ → List Span → ℕ → Type 0
Tiles from [] to = from ≡ to
Tiles from (span ∷ spans) to = (span.start ≡ from) × (from ≤ span.end) × Tiles span.end spans to
