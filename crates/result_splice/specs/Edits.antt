-- Edits of a text: this project's own.
use Rattle.std.specs.Prelude.{◌≡◌, ℕ, ◌+◌, ◌*◌, ◌==◌, ◌≤◌, nat_lt, if◌then◌else◌, ◌⊎◌, List, [], ◌∷◌, ◌++◌, All, length, drop, slice_range}
use Rattle.std.specs.List.Sorted.{IsPermutation}
use Rattle.result_splice.specs.declared.edit.Edit.{Edit}

-- An edit's place in the order: by where it begins, and what is put in somewhere before what replaces from there.
abbrev pub rank : Edit → ℕ
rank edit = if edit.start == edit.end then 2 * edit.start else 2 * edit.start + 1

-- before the first that doesn't rank below it
abbrev pub put_in : Edit → List Edit → List Edit
put_in edit [] = edit ∷ []
put_in edit (other ∷ others) = if nat_lt (rank other) (rank edit) then other ∷ put_in edit others else edit ∷ other ∷ others

-- the edits by rank; those of one rank stay in the order that they have
abbrev pub ordered : List Edit → List Edit
ordered [] = []
ordered (edit ∷ edits) = put_in edit (ordered edits)

-- the text from a place on, with the edits in the place of what they replace
abbrev pub edited : List ℕ → ℕ → List Edit → List ℕ
edited text from [] = drop from text
edited text from (edit ∷ edits) = slice_range text from edit.start ++ (edit.bytes ++ edited text edit.end edits)

-- the text with all edits, which may be in any order
abbrev pub edited_text : List ℕ → List Edit → List ℕ
edited_text text edits = edited text 0 (ordered edits)

-- the edit lies between the two places, and ends where it begins or behind
pub record LiesBetween (from to : ℕ) (edit : Edit) : Type 0 where
  pub begins : from ≤ edit.start
  pub forward : edit.start ≤ edit.end
  pub ends : edit.end ≤ to

-- one of the two ends before the other begins, or there
abbrev pub IsApart : Edit → Edit → Type 0
IsApart one other = (one.end ≤ other.start) ⊎ (other.end ≤ one.start)

abbrev pub AreApart : List Edit → Type 0
AreApart [] = Unit {0}
AreApart (edit ∷ edits) = All (IsApart edit) edits × AreApart edits

-- Edits of a text of so many bytes, in any order: no two replace the same byte, and none is put in between the bytes that another replaces.
pub record CanBeMade (size : ℕ) (edits : List Edit) : Type 0 where
  pub each : All (LiesBetween 0 size) edits
  pub apart : AreApart edits

-- edits, each behind the one before, between two places
abbrev pub EditsLie : ℕ → List Edit → ℕ → Type 0
EditsLie from [] to = from ≤ to
EditsLie from (edit ∷ edits) to = (from ≤ edit.start) × (edit.start ≤ edit.end) × EditsLie edit.end edits to

-- The text with all edits, which stand in it one behind the other: all bytes outside them are kept, each once and in order.
pub record IsEdited (text : List ℕ) (edits : List Edit) (bytes : List ℕ) : Type 0 where
  pub in_order : List Edit
  pub same : IsPermutation edits in_order
  pub lie : EditsLie 0 in_order (length text)
  pub made : bytes ≡ edited text 0 in_order
