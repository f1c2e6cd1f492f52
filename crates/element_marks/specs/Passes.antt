-- What the passes over the elements of a list rely on: this project's own words.
use Rattle.std.specs.Prelude.{◌≡◌, ℕ, ◌+◌, List, [], ◌∷◌, slice_get, Bool, ◌&&◌, not, if◌then◌else◌}
use Rattle.element_marks.specs.declared.mark.Mark.{Mark}
use Rattle.element_marks.specs.Words.{may_begin, starts_anywhere}
use Rattle.element_marks.specs.Sorts.{is_at, is_at_or_pound}
use Rattle.element_marks.specs.Heads.{head, modifies_before}

-- how many `<` and how many `>` the elements have
abbrev pub opens_of : List Mark → ℕ
opens_of [] = 0
opens_of (mark ∷ marks) = mark.opens + opens_of marks

abbrev pub closes_of : List Mark → ℕ
closes_of [] = 0
closes_of (mark ∷ marks) = mark.closes + closes_of marks

-- each element has the head that begins with it
abbrev pub HeadsKnown : List Mark → Type 0
HeadsKnown [] = Unit {0}
HeadsKnown (mark ∷ marks) = (mark.head ≡ head (mark ∷ marks)) × HeadsKnown marks

-- no attribute, angle part, modifier or starter begins with the element
abbrev pub begins_nothing : Mark → Bool
begins_nothing mark = not (is_at_or_pound mark) && not mark.begins_angle && not (may_begin mark.keyword)

-- the element is a starter, and begins nothing else
abbrev pub begins_alone : Mark → Bool
begins_alone mark = not (is_at mark) && not mark.begins_angle && starts_anywhere mark.keyword

-- the first element with its angle part, which is so long if it begins one, its modifier and its head, where these are known of those behind it
abbrev pub first_settled : ℕ → List Mark → List Mark
first_settled part [] = []
first_settled part (mark ∷ behind) =
    let modified : Mark = record mark { angles = if mark.begins_angle then part else 0; modifies = modifies_before mark (slice_get behind 0) } in
    record modified { head = head (modified ∷ behind) } ∷ behind
