-- Heads where those of the later elements are set, and modifiers where those of the later ones are.
use Rattle.std.proofs.Common.{◌≡◌, refl, ℕ, zero, suc, ◌+◌, ◌<◌, ◌≤◌, ◌∙◌, ap, ap₂, sym, subst, arith, min, List, [], ◌∷◌, length, drop, slice_get, Some, None, Bool, true, false, ◌&&◌, ◌||◌, not, if◌then◌else◌}
use Rattle.element_marks.specs.declared.words.Keyword.{Keyword}
use Rattle.element_marks.specs.declared.words.Keyword.TheVariants.{Starts}
use Rattle.element_marks.specs.declared.mark.Mark.{Mark}
use Rattle.element_marks.specs.Words.{wants_name}
use Rattle.element_marks.specs.Sorts.{is_arguments, is_at, is_dot, is_name, is_parentheses, is_pound, is_word}
use Rattle.element_marks.specs.Heads.{attribute_length, by_length, dots_length, first_angles, first_is, head, head_from, keyword_starts, modifier_length, modifies, modifies_before, name_tail, prefix_length, starts, with_angles, with_heads, with_modifiers}
use Rattle.element_marks.specs.Passes.{HeadsKnown}
use Rattle.element_marks.proofs.Further.{further, further_further}

-- a modifier by the next element, whose modifier is set
pub modifies_is : (mark : Mark) (marks : List Mark) → modifies (mark ∷ marks) ≡ modifies_before mark (slice_get (with_modifiers marks) 0)
modifies_is mark [] = refl
modifies_is mark (next ∷ marks) = refl

-- angle parts, modifiers and heads
abbrev pub settled : List Mark → List Mark
settled marks = with_heads (with_modifiers (with_angles marks))

abbrev pub headed : ℕ → Mark → Mark
headed n mark = record mark { head = n }

with_length : (marks : List Mark) → length (with_heads marks) ≡ length marks
with_length [] = refl
with_length (mark ∷ marks) = ap suc (with_length marks)

pub with_drop : (n : ℕ) (marks : List Mark) → drop n (with_heads marks) ≡ with_heads (drop n marks)
with_drop zero marks = refl
with_drop (suc n) [] = refl
with_drop (suc n) (mark ∷ marks) = with_drop n marks

with_dots : (marks : List Mark) → dots_length (with_heads marks) ≡ dots_length marks
with_dots [] = refl
with_dots (dot ∷ []) = refl
with_dots (dot ∷ word ∷ marks) = ap (λ n. if is_dot dot && is_word word then suc (suc n) else 0) (with_dots marks)

with_first_angles : (marks : List Mark) → first_angles (with_heads marks) ≡ first_angles marks
with_first_angles [] = refl
with_first_angles (mark ∷ marks) = ap (λ n. min mark.angles (suc n)) (with_length marks)

with_first : (test : Mark → Bool) → ((mark : Mark) (n : ℕ) → test (headed n mark) ≡ test mark) → (marks : List Mark) → first_is test (with_heads marks) ≡ first_is test marks
with_first test same [] = refl
with_first test same (mark ∷ marks) = same mark (head (mark ∷ marks))

abbrev named_of : List Mark → ℕ
named_of marks = dots_length marks + first_angles (drop (dots_length marks) marks)

abbrev tail_of : ℕ → List Mark → ℕ
tail_of named marks = if first_is is_parentheses (drop named marks) then suc named else named

with_named : (marks : List Mark) → named_of (with_heads marks) ≡ named_of marks
with_named marks =
    ap (λ n. n + first_angles (drop n (with_heads marks))) (with_dots marks)
    ∙ ap (λ l. dots_length marks + first_angles l) (with_drop (dots_length marks) marks)
    ∙ ap (λ n. dots_length marks + n) (with_first_angles (drop (dots_length marks) marks))

with_tail : (named : ℕ) (marks : List Mark) → tail_of named (with_heads marks) ≡ tail_of named marks
with_tail named marks =
    ap (λ b. if b then suc named else named) (ap (first_is is_parentheses) (with_drop named marks) ∙ with_first is_parentheses (λ mark n. refl) (drop named marks))

with_name_tail : (marks : List Mark) → name_tail (with_heads marks) ≡ name_tail marks
with_name_tail marks = ap (λ n. tail_of n (with_heads marks)) (with_named marks) ∙ with_tail (named_of marks) marks

with_attribute : (n : ℕ) (mark : Mark) (marks : List Mark) → attribute_length (headed n mark ∷ with_heads marks) ≡ attribute_length (mark ∷ marks)
unfolding attribute_length
with_attribute n at [] = refl
with_attribute n at (name ∷ marks) = ap (λ m. if is_at at && is_name name then suc (suc m) else 0) (with_name_tail marks)

with_modifier : (n : ℕ) (mark : Mark) (marks : List Mark) → modifier_length (headed n mark ∷ with_heads marks) ≡ modifier_length (mark ∷ marks)
with_modifier n mark marks = ap (λ b. if mark.modifies then (if b then 2 else 1) else 0) (with_first is_arguments (λ next m. refl) marks)

with_prefix : (n : ℕ) (mark : Mark) (marks : List Mark) → prefix_length (headed n mark ∷ with_heads marks) ≡ prefix_length (mark ∷ marks)
with_prefix n mark marks = ap₂ (λ a m. by_length a m suc) (with_attribute n mark marks) (with_modifier n mark marks)

with_keyword : (keyword : Keyword) (marks : List Mark) → keyword_starts keyword (with_heads marks) ≡ keyword_starts keyword marks
with_keyword (Starts starter) marks = ap (λ b. not (wants_name starter) || b) (with_first is_name (λ next m. refl) marks)
with_keyword _ marks = refl

with_starts : (n : ℕ) (mark : Mark) (marks : List Mark) → starts (headed n mark ∷ with_heads marks) ≡ starts (mark ∷ marks)
with_starts n mark marks = ap (λ b. is_pound mark || b) (with_keyword mark.keyword marks)

by_same : (p : ℕ) (x y : ℕ) (f g : ℕ → ℕ) → x ≡ y → ((m : ℕ) → f m ≡ g m) → by_length p x f ≡ by_length p y g
by_same zero x y f g same each = same
by_same (suc p) x y f g same each = each p

with_front : (count n : ℕ) (mark : Mark) (marks : List Mark) → ((m : ℕ) → head_from (suc count) m (with_heads marks) ≡ head_from (suc count) m marks) → head_from count 0 (headed n mark ∷ with_heads marks) ≡ head_from count 0 (mark ∷ marks)
with_front count n mark marks each =
    ap (λ p. by_length p (if starts (headed n mark ∷ with_heads marks) then suc count else 0) (λ m. head_from (suc count) m (with_heads marks))) (with_prefix n mark marks)
    ∙ by_same (prefix_length (mark ∷ marks)) _ _ _ _ (ap (λ b. if b then suc count else 0) (with_starts n mark marks)) each

with_from : (count inside : ℕ) (marks : List Mark) → head_from count inside (with_heads marks) ≡ head_from count inside marks
with_from count inside [] = refl
with_from count (suc inside) (mark ∷ marks) = with_from (suc count) inside marks
with_from count zero (mark ∷ marks) = with_front count (head (mark ∷ marks)) mark marks (λ m. with_from (suc count) m marks)

pub head_with : (n : ℕ) (mark : Mark) (marks : List Mark) → head (headed n mark ∷ with_heads marks) ≡ head (mark ∷ marks)
unfolding head
head_with n mark marks = with_front 0 n mark marks (λ m. with_from 1 m marks)

pub heads_known : (marks : List Mark) → HeadsKnown (with_heads marks)
heads_known [] = tt
heads_known (mark ∷ marks) = (sym (head_with (head (mark ∷ marks)) mark marks), heads_known marks)

pub known_drop : (n : ℕ) (marks : List Mark) → HeadsKnown marks → HeadsKnown (drop n marks)
known_drop zero marks known = known
known_drop (suc n) [] known = tt
known_drop (suc n) (mark ∷ marks) known = known_drop n marks known.1

pub known_later : (n : ℕ) (marks : List Mark) → 0 < n → HeadsKnown (drop 1 marks) → HeadsKnown (drop n marks)
known_later zero marks some known = absurd (omega (arith, some))
known_later (suc n) [] some known = tt
known_later (suc n) (mark ∷ marks) some known = known_drop n marks known

pub known_first : (marks : List Mark) (mark : Mark) → slice_get marks 0 ≡ Some mark → HeadsKnown marks → mark.head ≡ head marks
known_first [] mark is known = cc
known_first (first ∷ marks) mark is known = let same : mark ≡ first = cc in ap (λ m. m.head) same ∙ known.0

pub no_first : (marks : List Mark) → slice_get marks 0 ≡ None → 0 ≡ head marks
unfolding head
no_first [] is = refl
no_first (mark ∷ marks) is = cc

head_moved_by : (p count : ℕ) (b : Bool) (marks : List Mark) → ((c m : ℕ) → head_from c m marks ≡ further (c + m) (head_from 0 0 (drop m marks))) → by_length p (if b then suc count else 0) (λ m. head_from (suc count) m marks) ≡ further (count + 0) (by_length p (if b then 1 else 0) (λ m. head_from 1 m marks))
head_moved_by zero count true marks each = omega arith
head_moved_by zero count false marks each = refl
head_moved_by (suc m) count b marks each =
    let at : suc count + m ≡ count + 0 + (1 + m) = omega arith in
    each (suc count) m
    ∙ ap (λ n. further n (head_from 0 0 (drop m marks))) at
    ∙ sym (further_further (count + 0) (1 + m) (head_from 0 0 (drop m marks)))
    ∙ ap (further (count + 0)) (sym (each 1 m))

head_moved : (count inside : ℕ) (marks : List Mark) → head_from count inside marks ≡ further (count + inside) (head_from 0 0 (drop inside marks))
head_moved count zero [] = refl
head_moved count (suc inside) [] = refl
head_moved count (suc inside) (mark ∷ marks) =
    let at : suc count + inside ≡ count + suc inside = omega arith in
    head_moved (suc count) inside marks ∙ ap (λ n. further n (head_from 0 0 (drop inside marks))) at
head_moved count zero (mark ∷ marks) = head_moved_by (prefix_length (mark ∷ marks)) count (starts (mark ∷ marks)) marks (λ c m. head_moved c m marks)

head_past : (mark : Mark) (marks : List Mark) (m p : ℕ) → suc m ≡ p → further (suc m) (head_from 0 0 (drop m marks)) ≡ by_length p (if starts (mark ∷ marks) then 1 else 0) (λ n. head_from 1 n marks)
head_past mark marks m p is =
    let at : suc m ≡ 1 + m = omega arith in
    subst (λ q. further (suc m) (head_from 0 0 (drop m marks)) ≡ by_length q (if starts (mark ∷ marks) then 1 else 0) (λ n. head_from 1 n marks)) is
    (ap (λ n. further n (head_from 0 0 (drop m marks))) at ∙ sym (head_moved 1 m marks))

-- past an attribute or a modifier, the head goes on behind it
pub head_step : (marks : List Mark) (prefix : ℕ) → prefix ≡ prefix_length marks → 0 < prefix → further prefix (head (drop prefix marks)) ≡ head marks
unfolding head
head_step [] zero is some = refl
head_step [] (suc prefix) is some = refl
head_step (mark ∷ marks) zero is some = absurd (omega (arith, some))
head_step (mark ∷ marks) (suc prefix) is some = head_past mark marks prefix (prefix_length (mark ∷ marks)) is

pub head_plain : (marks : List Mark) → 0 ≡ prefix_length marks → (if starts marks then 1 else 0) ≡ head marks
unfolding head
head_plain [] is = refl
head_plain (mark ∷ marks) is = subst (λ q. (if starts (mark ∷ marks) then 1 else 0) ≡ by_length q (if starts (mark ∷ marks) then 1 else 0) (λ n. head_from 1 n marks)) is refl

one_within : (b : Bool) (count n : ℕ) → (if b then suc count else 0) ≤ suc count + n
one_within true count n = omega arith
one_within false count n = omega arith

head_bound_by : (p count : ℕ) (b : Bool) (marks : List Mark) → ((m : ℕ) → head_from (suc count) m marks ≤ suc count + length marks) → by_length p (if b then suc count else 0) (λ m. head_from (suc count) m marks) ≤ suc count + length marks
head_bound_by zero count b marks each = one_within b count (length marks)
head_bound_by (suc m) count b marks each = each m

head_bound : (count inside : ℕ) (marks : List Mark) → head_from count inside marks ≤ count + length marks
head_bound count inside [] = omega arith
head_bound count (suc inside) (mark ∷ marks) =
    let later : head_from (suc count) inside marks ≤ suc count + length marks = head_bound (suc count) inside marks in
    omega (arith, later)
head_bound count zero (mark ∷ marks) =
    let later : head_from count 0 (mark ∷ marks) ≤ suc count + length marks = head_bound_by (prefix_length (mark ∷ marks)) count (starts (mark ∷ marks)) marks (λ m. head_bound (suc count) m marks) in
    omega (arith, later)

pub head_within : (marks : List Mark) → head marks ≤ length marks
unfolding head
head_within marks = let bound : head_from 0 0 marks ≤ 0 + length marks = head_bound 0 0 marks in omega (arith, bound)
