-- With what a declaration begins: attributes and modifiers in any order, then a starter.
-- After The Swift Programming Language, Attributes and Declaration Modifiers; how far each goes is this project's own.
use Rattle.std.specs.Prelude.{ℕ, zero, suc, ◌+◌, ◌==◌, min, List, [], ◌∷◌, length, drop, Option, Some, None, Bool, false, ◌&&◌, ◌||◌, not, if◌then◌else◌}
use Rattle.element_marks.specs.declared.words.Keyword.{Keyword}
use Rattle.element_marks.specs.declared.words.Keyword.TheVariants.{Starts}
use Rattle.element_marks.specs.declared.mark.Mark.{Mark}
use Rattle.element_marks.specs.Words.{is_modifier, is_class, is_class_member, wants_name}
use Rattle.element_marks.specs.Marks.{joins}
use Rattle.element_marks.specs.Sorts.{is_arguments, is_at, is_name, is_dot, is_word, is_parentheses, is_pound}

-- by the length of what begins with an element: nothing does, or so many elements of it follow the first
abbrev pub by_length : {A : Type 0} → ℕ → A → (ℕ → A) → A
by_length zero nothing begins = nothing
by_length (suc more) nothing begins = begins more

-- how many elements lead back to the angle depth at which so many `<` and `>` had passed; 0 where none do
abbrev pub angles_from : ℕ → ℕ → ℕ → List Mark → ℕ
angles_from count opened closed [] = 0
angles_from count opened closed (mark ∷ marks) =
    if (opened + mark.opens) == (closed + mark.closes) then suc count
    else angles_from (suc count) (opened + mark.opens) (closed + mark.closes) marks

-- the angle part that the first element begins
unfoldable pub angles : List Mark → ℕ
angles [] = 0
angles (mark ∷ marks) = if mark.begins_angle then angles_from 0 0 0 (mark ∷ marks) else 0

-- the angle part that the first element begins, where that is known, as far as the list goes
abbrev pub first_angles : List Mark → ℕ
first_angles [] = 0
first_angles (mark ∷ marks) = min mark.angles (suc (length marks))

abbrev pub first_is : (Mark → Bool) → List Mark → Bool
first_is test [] = false
first_is test (mark ∷ marks) = test mark

-- the elements that are a dot and a word, behind an attribute's first name
abbrev pub dots_length : List Mark → ℕ
dots_length [] = 0
dots_length (dot ∷ []) = 0
dots_length (dot ∷ word ∷ marks) = if is_dot dot && is_word word then suc (suc (dots_length marks)) else 0

-- behind an attribute's first name
abbrev pub name_tail : List Mark → ℕ
name_tail marks =
    let named = dots_length marks + first_angles (drop (dots_length marks) marks) in
    if first_is is_parentheses (drop named marks) then suc named else named

-- how many elements the attribute is that begins here; 0 where none does
unfoldable pub attribute_length : List Mark → ℕ
attribute_length [] = 0
attribute_length (at ∷ []) = 0
attribute_length (at ∷ name ∷ marks) = if is_at at && is_name name then suc (suc (name_tail marks)) else 0

-- `class` is a modifier before another and before a member that may be of a class
abbrev pub modifies : List Mark → Bool
modifies [] = false
modifies (mark ∷ marks) = is_modifier mark.keyword || (is_class mark.keyword && (modifies marks || first_is (λ next. is_class_member next.keyword) marks))

-- the same, where it is known of the next
abbrev pub before_member : Option Mark → Bool
before_member None = false
before_member (Some next) = next.modifies || is_class_member next.keyword

abbrev pub modifies_before : Mark → Option Mark → Bool
modifies_before mark next = is_modifier mark.keyword || (is_class mark.keyword && before_member next)

-- the arguments of a modifier stand on its line
abbrev pub modifier_length : List Mark → ℕ
modifier_length [] = 0
modifier_length (mark ∷ marks) =
    if mark.modifies then (if first_is is_arguments marks then 2 else 1) else 0

-- the attribute or modifier that begins here; 0 where none does
abbrev pub prefix_length : List Mark → ℕ
prefix_length marks = by_length (attribute_length marks) (modifier_length marks) suc

-- by the first element's keyword
abbrev pub keyword_starts : Keyword → List Mark → Bool
keyword_starts (Starts starter) behind = not (wants_name starter) || first_is is_name behind
keyword_starts _ behind = false

-- the first element is a starter
abbrev pub starts : List Mark → Bool
starts [] = false
starts (mark ∷ marks) = is_pound mark || keyword_starts mark.keyword marks

-- `count` elements stand before, and as many of these as `inside` says belong to what began there
abbrev pub head_from : ℕ → ℕ → List Mark → ℕ
head_from count inside [] = 0
head_from count (suc inside) (mark ∷ marks) = head_from (suc count) inside marks
head_from count zero (mark ∷ marks) =
    by_length (prefix_length (mark ∷ marks)) (if starts (mark ∷ marks) then suc count else 0) (λ more. head_from (suc count) more marks)

-- how many elements the head is that begins here; 0 where none does
unfoldable pub head : List Mark → ℕ
head marks = head_from 0 0 marks

-- each element with one of its neighbours more: those before it, the angle parts, the modifiers, the heads
abbrev pub with_joins : Option Mark → List Mark → List Mark
with_joins previous [] = []
with_joins previous (mark ∷ marks) = record mark { joins = joins previous mark mark.sort } ∷ with_joins (Some mark) marks

abbrev pub with_angles : List Mark → List Mark
with_angles [] = []
with_angles (mark ∷ marks) = record mark { angles = angles (mark ∷ marks) } ∷ with_angles marks

abbrev pub with_modifiers : List Mark → List Mark
with_modifiers [] = []
with_modifiers (mark ∷ marks) = record mark { modifies = modifies (mark ∷ marks) } ∷ with_modifiers marks

abbrev pub with_heads : List Mark → List Mark
with_heads [] = []
with_heads (mark ∷ marks) = record mark { head = head (mark ∷ marks) } ∷ with_heads marks

unfoldable pub in_list : List Mark → List Mark
in_list marks = with_heads (with_modifiers (with_angles (with_joins None marks)))
