-- The marks of a list's elements from one on, and which declarations are read by them: this project's own words.
use Rattle.std.specs.Prelude.{◌≡◌, ◌≤◌, ℕ, ◌-◌, ◌==◌, nat_le, nat_lt, List, length, drop, take, Bool, true, ◌&&◌, ◌||◌, not}
use Rattle.std.specs.List.{list_any}
use Rattle.element_marks.specs.declared.mark.Mark.{Mark}
use Rattle.element_marks.specs.Sorts.{is_use}
use Rattle.decl_parser.specs.declared.front.Front.{Front}
use Rattle.decl_parser.specs.Cut.{count_of}

-- a front of a list of so many marks
abbrev pub IsFront : List Mark → Front → Type 0
IsFront all front = front.marks.items ≡ take (length front.marks.items) (drop front.from all)

-- a macro use begins with one of the elements
abbrev pub has_use : List Mark → Bool
has_use marks = list_any is_use marks

abbrev pub is_all : Front → ℕ → Bool
is_all front total = (front.from == 0) && (length front.marks.items == total)

-- where `left` elements are left, the declaration that begins here ends before another mark or with the list, and no use begins in it
abbrev pub stands_alone : List Mark → ℕ → Bool
stands_alone marks left = not (length marks == 0) && (nat_lt (count_of marks) (length marks) || (length marks == left)) && not (has_use (take (count_of marks) marks))

-- the declaration at a place of a list of so many elements is read by the front as by the whole list
abbrev pub is_readable : Front → ℕ → ℕ → Bool
is_readable front at total = is_all front total || (nat_le front.from at && stands_alone (drop (at - front.from) front.marks.items) (total - at))

pub record Readable (all : List Mark) (front : Front) (at : ℕ) : Type 0 where
  pub is_front : IsFront all front
  pub begins : front.from ≤ at
  pub reads : is_readable front at (length all) ≡ true
