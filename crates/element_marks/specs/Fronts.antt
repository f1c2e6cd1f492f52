-- Fronts of lists, and what ends one: this project's own words.
use Rattle.std.specs.Prelude.{ℕ, zero, suc, ◌==◌, List, Option, None, slice_get, Bool, true, false, ◌&&◌}
use Rattle.swift_lexer.specs.Trees.{Forest, none, cons}
use Rattle.element_marks.specs.declared.mark.Mark.{Mark}
use Rattle.element_marks.specs.declared.mark.Sort.{Sort}
use Rattle.element_marks.specs.declared.mark.Sort.TheVariants as sort
use Rattle.element_marks.specs.Marks.{mark_of}
use Rattle.element_marks.specs.Heads.{with_angles, with_heads, with_joins, with_modifiers}

-- an element that no attribute, modifier or starter begins with, has inside or looks at
abbrev pub is_wall : Sort → Bool
is_wall sort.Number = true
is_wall sort.Str = true
is_wall sort.Comma = true
is_wall sort.Colon = true
is_wall sort.Semicolon = true
is_wall sort.Backslash = true
is_wall sort.Equals = true
is_wall sort.Arrow = true
is_wall sort.Brackets = true
is_wall sort.Braces = true
is_wall _ = false

-- such an element is the first, or there is none
abbrev pub is_walled : List ℕ → Forest → Bool
is_walled text none = true
is_walled text (cons tree forest) = is_wall (mark_of text tree).sort

-- begins an angle part that does not end in its list
abbrev pub is_open : Mark → Bool
is_open mark = mark.begins_angle && mark.angles == 0

-- the element before a place
abbrev pub mark_before : ℕ → List Mark → Option Mark
mark_before zero marks = None
mark_before (suc at) marks = slice_get marks at

-- the elements of a list from one on, behind such an element
abbrev pub list_behind : Option Mark → List Mark → List Mark
list_behind previous marks = with_heads (with_modifiers (with_angles (with_joins previous marks)))
