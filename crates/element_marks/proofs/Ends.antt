-- The first and the last of some elements.
use Rattle.std.proofs.Common.{◌≡◌, refl, ℕ, zero, suc, ◌+◌, ◌-◌, ◌<◌, ◌==◌, ◌∙◌, ap, sym, arith, length, length-drop, List, [], ◌∷◌, ◌++◌, drop, reverse, slice_get, Some, Bool, true, false, ◌||◌, ◌&&◌, not, if◌then◌else◌}
use Rattle.std.proofs.lemmas.List.{reverse-append}
use Rattle.element_marks.specs.declared.mark.Mark.{Mark}
use Rattle.element_marks.specs.Sorts.{is_braces, is_dot, is_semicolon, is_use}
use Rattle.element_marks.specs.Words.{is_condition}
use Rattle.element_marks.specs.Spans.{end_of, whole}
use Rattle.element_marks.specs.Heads.{first_is}
use Rattle.element_marks.specs.Uses.{call_length, closures_length, in_condition, use_length}

end_of_last : (mark : Mark) (marks : List Mark) (last : Mark) → slice_get (mark ∷ marks) (length marks) ≡ Some last → end_of mark.end marks ≡ last.end
end_of_last mark [] last is = let same : mark ≡ last = cc in ap (λ m. m.end) same
end_of_last mark (next ∷ marks) last is = end_of_last next marks last is

pub whole_is : (marks : List Mark) (first last : Mark) → slice_get marks 0 ≡ Some first → slice_get marks (length marks - 1) ≡ Some last → whole marks ≡ Some (record { start = first.start; end = last.end })
whole_is [] first last at_front at_end = cc
whole_is (mark ∷ marks) first last at_front at_end =
    let same : mark ≡ first = cc in
    let place : suc (length marks) - 1 ≡ length marks = omega arith in
    let ends : end_of mark.end marks ≡ last.end = end_of_last mark marks last (sym (ap (slice_get (mark ∷ marks)) place) ∙ at_end) in
    ap (λ m. Some (record { start = m.start; end = end_of mark.end marks })) same ∙ ap (λ e. Some (record { start = first.start; end = e })) ends

first_some : (test : Mark → Bool) (marks : List Mark) → first_is test marks ≡ true → 0 < length marks
first_some test [] is = cc
first_some test (mark ∷ marks) is = omega arith

pub not_empty : (n : ℕ) → false ≡ (n == 0) → 0 < n
not_empty zero is = cc
not_empty (suc n) is = omega arith

-- there is an element at the place
pub first_behind : (test : Mark → Bool) (n : ℕ) (marks : List Mark) → first_is test (drop n marks) ≡ true → n < length marks
first_behind test n marks is = let some : 0 < length (drop n marks) = first_some test (drop n marks) is in omega (arith, some, length-drop n marks)

pub reverse_last : (marks : List Mark) (last : Mark) → reverse (marks ++ last ∷ []) ≡ last ∷ reverse marks
reverse_last marks last = reverse-append marks (last ∷ [])

pub condition_step : (rest earlier : List Mark) (mark : Mark) → rest ≡ earlier ++ mark ∷ [] → in_condition (reverse rest) ≡ (if is_braces mark || is_semicolon mark then false else (if is_condition mark.keyword && not (first_is is_dot (reverse earlier)) then true else in_condition (reverse earlier)))
condition_step rest earlier mark is = ap (λ l. in_condition (reverse l)) is ∙ ap in_condition (reverse_last earlier mark)

-- a use is its `#` word, its call and its closures
use_of : (b : Bool) (n : ℕ) → b ≡ true → n ≡ (if b then n else 0)
use_of true n is = refl
use_of false n is = cc

pub use_is : (blocks : List ℕ) (before marks : List Mark) → first_is is_use marks ≡ true → suc (call_length (drop 1 marks) + closures_length blocks before (drop (call_length (drop 1 marks)) (drop 1 marks))) ≡ use_length blocks before marks
unfolding use_length
use_is blocks before [] is = cc
use_is blocks before (pound ∷ marks) is = use_of (is_use pound) _ is

no_use_of : (b : Bool) (n : ℕ) → b ≡ false → 0 ≡ (if b then n else 0)
no_use_of true n is = cc
no_use_of false n is = refl

pub no_use : (blocks : List ℕ) (before marks : List Mark) → first_is is_use marks ≡ false → 0 ≡ use_length blocks before marks
unfolding use_length
no_use blocks before [] is = refl
no_use blocks before (pound ∷ marks) is = no_use_of (is_use pound) _ is
