-- The parts of the text that elements are: this project's own words.
use Rattle.std.specs.Prelude.{ℕ, ◌+◌, ◌-◌, min, List, [], ◌∷◌, Option, Some, None, if◌then◌else◌}
use Rattle.swift_base.specs.declared.place.Span.{Span}
use Rattle.element_marks.specs.declared.mark.Mark.{Mark}
use Rattle.element_marks.specs.declared.mark.Sort.{Sort}
use Rattle.element_marks.specs.Sorts.{is_quoted, is_quoted_sort}

abbrev pub span_of : Mark → Span
span_of mark = record { start = mark.start; end = mark.end }

-- behind the first byte
abbrev pub behind_first : Mark → Span
behind_first mark = record { start = min (mark.start + 1) mark.end; end = mark.end }

-- between the first byte and the last
abbrev pub between : Mark → Span
between mark = record { start = min (mark.start + 1) mark.end; end = mark.end - 1 }

-- a name's own text: what stands between the backquotes, where there are any
abbrev pub name_of : Mark → Span
name_of mark = if is_quoted mark then between mark else span_of mark

-- the same of an element of the sort from its first byte to its end
abbrev pub name_between : ℕ → ℕ → Sort → Span
name_between start end sort = if is_quoted_sort sort then record { start = min (start + 1) end; end = end - 1 } else record { start = start; end = end }

-- the end of the last element
abbrev pub end_of : ℕ → List Mark → ℕ
end_of end [] = end
end_of end (mark ∷ marks) = end_of mark.end marks

-- from the first element to the last
abbrev pub whole : List Mark → Option Span
whole [] = None
whole (mark ∷ marks) = Some (record { start = mark.start; end = end_of mark.end marks })
