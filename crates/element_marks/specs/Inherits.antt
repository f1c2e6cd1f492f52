-- Extended types and inheritance clauses: after The Swift Programming Language, Declarations and Types.
use Rattle.std.specs.Prelude.{ℕ, zero, suc, ◌+◌, ◌==◌, List, [], ◌∷◌, take, drop, Option, Some, None, Bool, ◌&&◌, ◌||◌, if◌then◌else◌}
use Rattle.swift_base.specs.declared.place.Span.{Span}
use Rattle.element_marks.specs.declared.mark.Mark.{Mark}
use Rattle.element_marks.specs.declared.inherits.Stop.{Stop}
use Rattle.element_marks.specs.declared.inherits.Stop.TheVariants as stop
use Rattle.element_marks.specs.Words.{is_where}
use Rattle.element_marks.specs.Sorts.{is_colon, is_comma, is_braces}
use Rattle.element_marks.specs.Spans.{whole}
use Rattle.element_marks.specs.Heads.{by_length, attribute_length}

-- an element at which a part ends; `outside` where the angle depth is 0
abbrev pub stops : Stop → Mark → Bool → Bool
stops stop.Extended mark outside = is_braces mark || (outside && (is_colon mark || is_where mark.keyword))
stops stop.Clause mark outside = outside && (is_colon mark || is_where mark.keyword)
stops stop.Where mark outside = outside && is_where mark.keyword
stops stop.Comma mark outside = outside && is_comma mark

-- how many elements stand before such an element, where so many `<` and `>` had passed
abbrev pub length_before : Stop → ℕ → ℕ → List Mark → ℕ
length_before stop opened closed [] = 0
length_before stop opened closed (mark ∷ marks) =
    if stops stop mark (opened == closed) then 0 else suc (length_before stop (opened + mark.opens) (closed + mark.closes) marks)

-- past its attributes, `inside` elements of one of which stand first, a piece is what it names
abbrev pub named_type : ℕ → List Mark → Option Span
named_type inside [] = None
named_type (suc inside) (mark ∷ marks) = named_type inside marks
named_type zero (mark ∷ marks) =
    by_length (attribute_length (mark ∷ marks)) (whole (mark ∷ marks)) (λ more. named_type more marks)

abbrev pub with_piece : Option Span → List Span → List Span
with_piece None pieces = pieces
with_piece (Some piece) pieces = piece ∷ pieces

-- a clause cut at its commas of angle depth 0, past `inside` elements of a piece; a piece without an element past its attributes is left out
abbrev pub pieces : ℕ → List Mark → List Span
pieces inside [] = []
pieces (suc inside) (mark ∷ marks) = pieces inside marks
pieces zero (mark ∷ marks) =
    let piece = length_before stop.Comma 0 0 (mark ∷ marks) in
    with_piece (named_type 0 (take piece (mark ∷ marks))) (pieces piece marks)

-- a clause begins with its colon, and ends before `where`
abbrev pub clause : List Mark → List Span
clause [] = []
clause (mark ∷ marks) = if is_colon mark then pieces 0 (take (length_before stop.Where 0 0 marks) marks) else []

-- what a type names behind the first colon at angle depth 0, where no `where` at that depth stands before it
abbrev pub inherited : List Mark → List Span
inherited marks = clause (drop (length_before stop.Clause 0 0 marks) marks)
