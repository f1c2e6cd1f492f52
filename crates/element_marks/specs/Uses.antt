-- How far a macro use goes: after SE-0382; this project's own.
use Rattle.std.specs.Prelude.{ℕ, suc, ◌+◌, ◌==◌, nat_le, List, [], ◌∷◌, length, drop, Bool, true, false, ◌&&◌, ◌||◌, not, if◌then◌else◌}
use Rattle.std.specs.List.{list_any}
use Rattle.element_marks.specs.declared.mark.Mark.{Mark}
use Rattle.element_marks.specs.Words.{is_condition}
use Rattle.element_marks.specs.Sorts.{is_arguments, is_word, is_use, is_colon, is_semicolon, is_dot, is_braces}
use Rattle.element_marks.specs.Heads.{first_is}

-- going back over the elements before a use, the first of braces, a `;` and a word that begins a condition is such a word
abbrev pub in_condition : List Mark → Bool
in_condition [] = false
in_condition (mark ∷ before) =
    if is_braces mark || is_semicolon mark then false
    else (if is_condition mark.keyword && not (first_is is_dot before) then true else in_condition before)

-- braces on the same line that are the block of no declaration
abbrev pub is_closure : List ℕ → Mark → Bool
is_closure blocks mark = is_braces mark && not mark.first && not (list_any (λ block. block == mark.start) blocks)

-- the angle part of a use stands directly behind its name, and ends in this list
abbrev pub use_angles : List Mark → ℕ
use_angles [] = 0
use_angles (mark ∷ marks) = if mark.begins_angle && not mark.spaced && nat_le mark.angles (suc (length marks)) then mark.angles else 0

-- further closures: a word, a colon and braces on the same line
abbrev pub labels_length : List ℕ → List Mark → ℕ
labels_length blocks [] = 0
labels_length blocks (label ∷ []) = 0
labels_length blocks (label ∷ colon ∷ []) = 0
labels_length blocks (label ∷ colon ∷ closure ∷ marks) =
    if is_word label && not label.first && is_colon colon && not colon.first && is_closure blocks closure
    then suc (suc (suc (labels_length blocks marks))) else 0

-- the name of a use with its angle part and its arguments
abbrev pub call_length : List Mark → ℕ
call_length marks =
    if first_is is_arguments (drop (use_angles marks) marks) then suc (use_angles marks)
    else use_angles marks

abbrev pub closures_length : List ℕ → List Mark → List Mark → ℕ
closures_length blocks before [] = 0
closures_length blocks before (mark ∷ marks) =
    if is_closure blocks mark && not (in_condition before) then suc (labels_length blocks marks) else 0

-- how many elements the use is that begins here; 0 where none does. `before` are the elements before it, the nearest first
unfoldable pub use_length : List ℕ → List Mark → List Mark → ℕ
use_length blocks before [] = 0
use_length blocks before (pound ∷ marks) =
    if is_use pound then suc (call_length marks + closures_length blocks before (drop (call_length marks) marks)) else 0
