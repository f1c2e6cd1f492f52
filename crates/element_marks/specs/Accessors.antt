-- Accessors: after The Swift Programming Language, Declarations, and SE-0310; how far each goes is this project's own.
use Rattle.std.specs.Prelude.{ℕ, zero, suc, ◌+◌, ◌-◌, ◌==◌, List, [], ◌∷◌, drop, Result, Ok, Err, Bool, true, false, ◌&&◌, ◌||◌, not, if◌then◌else◌}
use Rattle.swift_base.specs.declared.place.Span.{Span}
use Rattle.element_marks.specs.declared.mark.Mark.{Mark}
use Rattle.element_marks.specs.Answers.{and_then}
use Rattle.element_marks.specs.Words.{is_accessor, is_accessor_modifier, is_observer, is_async, is_throws}
use Rattle.element_marks.specs.Sorts.{is_parentheses, is_braces}
use Rattle.element_marks.specs.Spans.{span_of}
use Rattle.element_marks.specs.Heads.{by_length, attribute_length, prefix_length, first_is}

-- how many elements lead from the attributes and modifiers of an accessor to its word; 0 where no word does
abbrev pub word_from : ℕ → ℕ → List Mark → ℕ
word_from count inside [] = 0
word_from count (suc inside) (mark ∷ marks) = word_from (suc count) inside marks
word_from count zero (mark ∷ marks) =
    by_length (attribute_length (mark ∷ marks))
    (if is_accessor_modifier mark.keyword then word_from (suc count) 0 marks else (if is_accessor mark.keyword then suc count else 0))
    (λ more. word_from (suc count) more marks)

-- `async` and `throws`, and the type that may follow `throws`
abbrev pub effects_length : Bool → List Mark → ℕ
effects_length throwing [] = 0
effects_length throwing (mark ∷ marks) =
    if is_async mark.keyword then suc (effects_length false marks)
    else (if is_throws mark.keyword then suc (effects_length true marks)
    else (if throwing && is_parentheses mark then suc (effects_length false marks) else 0))

abbrev pub one_if : Bool → ℕ
one_if b = if b then 1 else 0

-- how many elements an accessor whose word is so far from its beginning is, without its braces
abbrev pub accessor_front : ℕ → List Mark → ℕ
accessor_front words marks =
    let named = words + one_if (first_is is_parentheses (drop words marks)) in
    named + effects_length false (drop named marks)

-- how many elements the accessor is that begins here; 0 where none does, also where braces are wanted and missing
unfoldable pub accessor_length : Bool → List Mark → ℕ
accessor_length braces_wanted marks =
    let words = word_from 0 0 marks in
    let front = accessor_front words marks in
    let braces = first_is is_braces (drop front marks) in
    if words == 0 || (braces_wanted && not braces) then 0 else front + one_if braces

-- the word of the accessor that begins here, before other words
abbrev pub with_first : List Mark → List Span → List Span
with_first [] words = words
with_first (mark ∷ marks) words = span_of mark ∷ words

-- the words of the accessors that the elements are, past `inside` elements of one that began before; or the offset of the first element that begins none
abbrev pub accessors_from : Bool → ℕ → List Mark → Result (List Span) ℕ
accessors_from braces_wanted inside [] = Ok []
accessors_from braces_wanted (suc inside) (mark ∷ marks) = accessors_from braces_wanted inside marks
accessors_from braces_wanted zero (mark ∷ marks) =
    by_length (accessor_length braces_wanted (mark ∷ marks)) (Err mark.start) (λ more.
    and_then (accessors_from braces_wanted more marks) (λ words. Ok (with_first (drop (word_from 0 0 (mark ∷ marks) - 1) (mark ∷ marks)) words)))

abbrev pub is_some : {A F : Type 0} → Result (List A) F → Bool
is_some (Ok (one ∷ others)) = true
is_some _ = false

-- one accessor or more, with braces or without
unfoldable pub lists_accessors : List Mark → Bool
lists_accessors marks = is_some (accessors_from false 0 marks)

-- past attributes and modifiers, the first element is the word of an accessor that observes
abbrev pub observes_from : ℕ → List Mark → Bool
observes_from inside [] = false
observes_from (suc inside) (mark ∷ marks) = observes_from inside marks
observes_from zero (mark ∷ marks) =
    by_length (prefix_length (mark ∷ marks)) (is_observer mark.keyword) (λ more. observes_from more marks)
