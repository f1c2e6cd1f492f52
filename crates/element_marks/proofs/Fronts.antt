-- A list's front, where nothing that begins in it goes on behind it.
use Rattle.std.proofs.Common.{◌≡◌, refl, ℕ, zero, suc, ◌+◌, ◌-◌, ◌<◌, ◌≤◌, ◌==◌, ◌∙◌, ap, ap₂, sym, arith, min, List, [], ◌∷◌, ◌++◌, append-nil, length, length-drop, drop, take, take_all, slice_get, Option, Some, None, Bool, true, false, ◌&&◌, ◌||◌, not, if◌then◌else◌}
use Rattle.std.specs.List.{list_any}
use Rattle.std.proofs.lemmas.List.{drop-append-le, take-append-drop}
use Rattle.std.proofs.Math.Seq.{take-append_seam}
use Rattle.swift_lexer.specs.declared.token.Class.{Class}
use Rattle.swift_lexer.specs.declared.token.Class.TheVariants as class
use Rattle.swift_lexer.specs.declared.element.Element.{Element}
use Rattle.swift_lexer.specs.Tiles.{bytes_of}
use Rattle.swift_lexer.specs.Trees.{Tree, leaf, nest, forest_of, tree_of}
use Rattle.element_marks.specs.declared.words.Keyword.{Keyword}
use Rattle.element_marks.specs.declared.words.Keyword.TheVariants.{Plain, Starts}
use Rattle.element_marks.specs.declared.mark.Mark.{Mark}
use Rattle.element_marks.specs.declared.mark.Sort.{Sort}
use Rattle.element_marks.specs.declared.mark.Sort.TheVariants as sort
use Rattle.element_marks.specs.Words.{is_class, is_class_member, is_modifier, wants_name}
use Rattle.element_marks.specs.Sorts.{is_arguments, is_at, is_at_sort, is_dot, is_dot_sort, is_name, is_name_sort, is_parentheses, is_parentheses_sort, is_pound, is_pound_sort, is_word, is_word_sort}
use Rattle.element_marks.specs.Marks.{begins_angle, joins, leaf_keyword, leaf_sort, mark_between, mark_of}
use Rattle.element_marks.specs.Heads.{angles, angles_from, attribute_length, by_length, dots_length, first_angles, first_is, head, head_from, in_list, keyword_starts, modifier_length, modifies, name_tail, prefix_length, starts, with_angles, with_heads, with_joins, with_modifiers}
use Rattle.element_marks.specs.Levels.{level, own_marks}
use Rattle.element_marks.specs.Fronts.{is_open, is_wall, is_walled, list_behind, mark_before}
use Rattle.element_marks.proofs.AnglePart.{length_angles, length_joins, length_modifiers, length_own}
use Rattle.element_marks.proofs.Ends.{first_behind}
use Rattle.element_marks.proofs.Settling.{no_attribute}
use Rattle.element_marks.proofs.Starting.{settled, with_drop}

no_name : (s : Sort) → is_wall s ≡ true → is_name_sort s ≡ false
no_name sort.Word is = cc
no_name sort.Quoted is = cc
no_name _ is = refl

no_word : (s : Sort) → is_wall s ≡ true → is_word_sort s ≡ false
no_word sort.Word is = cc
no_word _ is = refl

no_dot : (s : Sort) → is_wall s ≡ true → is_dot_sort s ≡ false
no_dot sort.Dot is = cc
no_dot _ is = refl

no_at : (s : Sort) → is_wall s ≡ true → is_at_sort s ≡ false
no_at sort.At is = cc
no_at _ is = refl

no_pound : (s : Sort) → is_wall s ≡ true → is_pound_sort s ≡ false
no_pound sort.Pound is = cc
no_pound sort.BuiltinPound is = cc
no_pound _ is = refl

no_parentheses : (s : Sort) → is_wall s ≡ true → is_parentheses_sort s ≡ false
no_parentheses sort.Parentheses is = cc
no_parentheses _ is = refl

second_no : (a b : Bool) → b ≡ false → (a && b) ≡ false
second_no true b absent = absent
second_no false b absent = refl

unless : {A : Type 0} (b : Bool) (one other : A) → b ≡ false → (if b then one else other) ≡ other
unless true one other is = cc
unless false one other is = refl

-- an element that nothing before it goes on with, and with which nothing begins
abbrev IsWall : Mark → Type 0
IsWall mark = (is_wall mark.sort ≡ true) × (mark.keyword ≡ Plain) × (mark.begins_angle ≡ false)

-- and its neighbours are known
abbrev IsBare : Mark → Type 0
IsBare mark = (is_wall mark.sort ≡ true) × (mark.keyword ≡ Plain) × (mark.angles ≡ 0) × (mark.modifies ≡ false)

-- angle parts end in the list
abbrev Within : List Mark → Type 0
Within [] = Unit {0}
Within (mark ∷ marks) = (mark.angles ≤ suc (length marks)) × Within marks

within_drop : (n : ℕ) (marks : List Mark) → Within marks → Within (drop n marks)
within_drop zero marks within = within
within_drop (suc n) [] within = tt
within_drop (suc n) (mark ∷ marks) within = within_drop n marks within.1

length_more : (front rest : List Mark) → length (front ++ rest) ≡ length front + length rest
length_more [] rest = omega arith
length_more (mark ∷ front) rest = let later : length (front ++ rest) ≡ length front + length rest = length_more front rest in omega (arith, later)

first_more : (test : Mark → Bool) (front : List Mark) (wall : Mark) (rest : List Mark) → test wall ≡ false → first_is test (front ++ wall ∷ rest) ≡ first_is test front
first_more test [] wall rest absent = absent
first_more test (mark ∷ front) wall rest absent = refl

dots_more : (front : List Mark) (wall : Mark) (rest : List Mark) → is_wall wall.sort ≡ true → dots_length (front ++ wall ∷ rest) ≡ dots_length front
dots_more [] wall [] is = refl
dots_more [] wall (next ∷ rest) is = ap (λ b. if b && is_word next then suc (suc (dots_length rest)) else 0) (no_dot wall.sort is)
dots_more (dot ∷ []) wall rest is = unless (is_dot dot && is_word wall) (suc (suc (dots_length rest))) 0 (second_no (is_dot dot) (is_word wall) (no_word wall.sort is))
dots_more (dot ∷ word ∷ front) wall rest is = ap (λ n. if is_dot dot && is_word word then suc (suc n) else 0) (dots_more front wall rest is)

two_within : (b : Bool) (n size : ℕ) → n ≤ size → (if b then suc (suc n) else 0) ≤ suc (suc size)
two_within true n size within = omega (arith, within)
two_within false n size within = omega arith

dots_within : (marks : List Mark) → dots_length marks ≤ length marks
dots_within [] = omega arith
dots_within (dot ∷ []) = omega arith
dots_within (dot ∷ word ∷ marks) = two_within (is_dot dot && is_word word) (dots_length marks) (length marks) (dots_within marks)

no_angles : (n size : ℕ) → n ≡ 0 → min n size ≡ 0
no_angles n size is = omega (arith, is)

angles_more : (front : List Mark) (wall : Mark) (rest : List Mark) → wall.angles ≡ 0 → Within front → first_angles (front ++ wall ∷ rest) ≡ first_angles front
angles_more [] wall rest none within = no_angles wall.angles (suc (length rest)) none
angles_more (mark ∷ front) wall rest none within = omega (arith, within.0, length_more front (wall ∷ rest))

angles_within : (marks : List Mark) → first_angles marks ≤ length marks
angles_within [] = omega arith
angles_within (mark ∷ marks) = omega arith

abbrev named_of : List Mark → ℕ
named_of marks = dots_length marks + first_angles (drop (dots_length marks) marks)

abbrev tail_of : ℕ → List Mark → ℕ
tail_of named marks = if first_is is_parentheses (drop named marks) then suc named else named

named_more : (front : List Mark) (wall : Mark) (rest : List Mark) → is_wall wall.sort ≡ true → wall.angles ≡ 0 → Within front → named_of (front ++ wall ∷ rest) ≡ named_of front
named_more front wall rest is none within =
    let n = dots_length front in
    ap (λ k. k + first_angles (drop k (front ++ wall ∷ rest))) (dots_more front wall rest is)
    ∙ ap (λ l. n + first_angles l) (drop-append-le n front (wall ∷ rest) (dots_within front))
    ∙ ap (λ k. n + k) (angles_more (drop n front) wall rest none (within_drop n front within))

named_within : (marks : List Mark) → named_of marks ≤ length marks
named_within marks = omega (arith, dots_within marks, angles_within (drop (dots_length marks) marks), length-drop (dots_length marks) marks)

tail_more : (named : ℕ) (front : List Mark) (wall : Mark) (rest : List Mark) → named ≤ length front → is_wall wall.sort ≡ true → tail_of named (front ++ wall ∷ rest) ≡ tail_of named front
tail_more named front wall rest within is =
    ap (λ l. if first_is is_parentheses l then suc named else named) (drop-append-le named front (wall ∷ rest) within)
    ∙ ap (λ b. if b then suc named else named) (first_more is_parentheses (drop named front) wall rest (no_parentheses wall.sort is))

name_tail_more : (front : List Mark) (wall : Mark) (rest : List Mark) → is_wall wall.sort ≡ true → wall.angles ≡ 0 → Within front → name_tail (front ++ wall ∷ rest) ≡ name_tail front
name_tail_more front wall rest is none within =
    ap (λ k. tail_of k (front ++ wall ∷ rest)) (named_more front wall rest is none within)
    ∙ tail_more (named_of front) front wall rest (named_within front) is

one_within : (b : Bool) (named size : ℕ) → named ≤ size → (b ≡ true → named < size) → (if b then suc named else named) ≤ size
one_within true named size within more = let less : named < size = more refl in omega (arith, less)
one_within false named size within more = within

name_tail_within : (marks : List Mark) → name_tail marks ≤ length marks
name_tail_within marks = one_within (first_is is_parentheses (drop (named_of marks) marks)) (named_of marks) (length marks) (named_within marks) (first_behind is_parentheses (named_of marks) marks)

attribute_more : (at : Mark) (front : List Mark) (wall : Mark) (rest : List Mark) → is_wall wall.sort ≡ true → wall.angles ≡ 0 → Within front → attribute_length (at ∷ (front ++ wall ∷ rest)) ≡ attribute_length (at ∷ front)
unfolding attribute_length
attribute_more at [] wall rest is none within = unless (is_at at && is_name wall) (suc (suc (name_tail rest))) 0 (second_no (is_at at) (is_name wall) (no_name wall.sort is))
attribute_more at (name ∷ front) wall rest is none within = ap (λ n. if is_at at && is_name name then suc (suc n) else 0) (name_tail_more front wall rest is none within.1)

attribute_within : (at : Mark) (marks : List Mark) → attribute_length (at ∷ marks) ≤ suc (length marks)
unfolding attribute_length
attribute_within at [] = omega arith
attribute_within at (name ∷ marks) = two_within (is_at at && is_name name) (name_tail marks) (length marks) (name_tail_within marks)

no_arguments : (wall : Mark) → is_wall wall.sort ≡ true → is_arguments wall ≡ false
no_arguments wall is = ap (λ b. b && not wall.first) (no_parentheses wall.sort is)

modifier_more : (mark : Mark) (front : List Mark) (wall : Mark) (rest : List Mark) → is_wall wall.sort ≡ true → modifier_length (mark ∷ (front ++ wall ∷ rest)) ≡ modifier_length (mark ∷ front)
modifier_more mark front wall rest is = ap (λ b. if mark.modifies then (if b then 2 else 1) else 0) (first_more is_arguments front wall rest (no_arguments wall is))

modifier_within_by : (a : Bool) (test : Mark → Bool) (marks : List Mark) → (if a then (if first_is test marks then 2 else 1) else 0) ≤ suc (length marks)
modifier_within_by false test marks = omega arith
modifier_within_by true test [] = omega arith
modifier_within_by true test (next ∷ marks) = one_within (test next) 1 (suc (suc (length marks))) (omega arith) (λ is. omega arith)

by_within : (n other size : ℕ) → n ≤ size → other ≤ size → by_length n other suc ≤ size
by_within zero other size one two = two
by_within (suc n) other size one two = one

prefix_more : (mark : Mark) (front : List Mark) (wall : Mark) (rest : List Mark) → is_wall wall.sort ≡ true → wall.angles ≡ 0 → Within front → prefix_length (mark ∷ (front ++ wall ∷ rest)) ≡ prefix_length (mark ∷ front)
prefix_more mark front wall rest is none within = ap₂ (λ a m. by_length a m suc) (attribute_more mark front wall rest is none within) (modifier_more mark front wall rest is)

prefix_within : (mark : Mark) (marks : List Mark) → prefix_length (mark ∷ marks) ≤ suc (length marks)
prefix_within mark marks = by_within (attribute_length (mark ∷ marks)) (modifier_length (mark ∷ marks)) (suc (length marks)) (attribute_within mark marks) (modifier_within_by mark.modifies is_arguments marks)

keyword_more : (keyword : Keyword) (front : List Mark) (wall : Mark) (rest : List Mark) → is_wall wall.sort ≡ true → keyword_starts keyword (front ++ wall ∷ rest) ≡ keyword_starts keyword front
keyword_more (Starts starter) front wall rest is = ap (λ b. not (wants_name starter) || b) (first_more is_name front wall rest (no_name wall.sort is))
keyword_more _ front wall rest is = refl

starts_more : (mark : Mark) (front : List Mark) (wall : Mark) (rest : List Mark) → is_wall wall.sort ≡ true → starts (mark ∷ (front ++ wall ∷ rest)) ≡ starts (mark ∷ front)
starts_more mark front wall rest is = ap (λ b. is_pound mark || b) (keyword_more mark.keyword front wall rest is)

-- nothing begins with the wall
wall_prefix : (wall : Mark) (rest : List Mark) → IsBare wall → prefix_length (wall ∷ rest) ≡ 0
wall_prefix wall rest bare =
    ap (λ n. by_length n (modifier_length (wall ∷ rest)) suc) (no_attribute wall rest (no_at wall.sort bare.0))
    ∙ unless wall.modifies (if first_is is_arguments rest then 2 else 1) 0 bare.3

wall_starts : (wall : Mark) (rest : List Mark) → IsBare wall → starts (wall ∷ rest) ≡ false
wall_starts wall rest bare = ap₂ (λ b k. b || keyword_starts k rest) (no_pound wall.sort bare.0) bare.1

wall_head : (count : ℕ) (wall : Mark) (rest : List Mark) → IsBare wall → head_from count 0 (wall ∷ rest) ≡ 0
wall_head count wall rest bare =
    ap (λ p. by_length p (if starts (wall ∷ rest) then suc count else 0) (λ m. head_from (suc count) m rest)) (wall_prefix wall rest bare)
    ∙ ap (λ b. if b then suc count else 0) (wall_starts wall rest bare)

by_more : (p size x y : ℕ) (f g : ℕ → ℕ) → p ≤ suc size → x ≡ y → ((m : ℕ) → m ≤ size → f m ≡ g m) → by_length p x f ≡ by_length p y g
by_more zero size x y f g within same each = same
by_more (suc p) size x y f g within same each = each p (omega (arith, within))

head_more_from : (count inside : ℕ) (front : List Mark) (wall : Mark) (rest : List Mark) → inside ≤ length front → IsBare wall → Within front → head_from count inside (front ++ wall ∷ rest) ≡ head_from count inside front
head_more_from count zero [] wall rest room bare within = wall_head count wall rest bare
head_more_from count (suc inside) [] wall rest room bare within = absurd (omega (arith, room))
head_more_from count (suc inside) (mark ∷ front) wall rest room bare within = head_more_from (suc count) inside front wall rest (omega (arith, room)) bare within.1
head_more_from count zero (mark ∷ front) wall rest room bare within =
    ap (λ p. by_length p (if starts (mark ∷ (front ++ wall ∷ rest)) then suc count else 0) (λ m. head_from (suc count) m (front ++ wall ∷ rest))) (prefix_more mark front wall rest bare.0 bare.2 within.1)
    ∙ by_more (prefix_length (mark ∷ front)) (length front) _ _ _ _ (prefix_within mark front)
    (ap (λ b. if b then suc count else 0) (starts_more mark front wall rest bare.0))
    (λ m inner. head_more_from (suc count) m front wall rest inner bare within.1)

head_more : (front : List Mark) (wall : Mark) (rest : List Mark) → IsBare wall → Within front → head (front ++ wall ∷ rest) ≡ head front
unfolding head
head_more front wall rest bare within = head_more_from 0 0 front wall rest (omega arith) bare within

heads_more : (front : List Mark) (wall : Mark) (rest : List Mark) → IsBare wall → Within front → with_heads (front ++ wall ∷ rest) ≡ with_heads front ++ with_heads (wall ∷ rest)
heads_more [] wall rest bare within = refl
heads_more (mark ∷ front) wall rest bare within =
    ap₂ (λ n l. record mark { head = n } ∷ l) (head_more (mark ∷ front) wall rest bare within) (heads_more front wall rest bare within.1)

-- modifiers
modifies_wall : (wall : Mark) (rest : List Mark) → wall.keyword ≡ Plain → modifies (wall ∷ rest) ≡ false
modifies_wall wall rest plain = ap (λ k. is_modifier k || (is_class k && (modifies rest || first_is (λ next. is_class_member next.keyword) rest))) plain

modifies_more : (front : List Mark) (wall : Mark) (rest : List Mark) → wall.keyword ≡ Plain → modifies (front ++ wall ∷ rest) ≡ modifies front
modifies_more [] wall rest plain = modifies_wall wall rest plain
modifies_more (mark ∷ front) wall rest plain =
    ap₂ (λ a b. is_modifier mark.keyword || (is_class mark.keyword && (a || b))) (modifies_more front wall rest plain)
    (first_more (λ next. is_class_member next.keyword) front wall rest (ap is_class_member plain))

modifiers_more : (front : List Mark) (wall : Mark) (rest : List Mark) → wall.keyword ≡ Plain → with_modifiers (front ++ wall ∷ rest) ≡ with_modifiers front ++ with_modifiers (wall ∷ rest)
modifiers_more [] wall rest plain = refl
modifiers_more (mark ∷ front) wall rest plain =
    ap₂ (λ b l. record mark { modifies = b } ∷ l) (modifies_more (mark ∷ front) wall rest plain) (modifiers_more front wall rest plain)

within_modifiers : (marks : List Mark) → Within marks → Within (with_modifiers marks)
within_modifiers [] within = tt
within_modifiers (mark ∷ marks) within = (omega (arith, within.0, length_modifiers marks), within_modifiers marks within.1)

-- angle parts
either_more : (b : Bool) (count x y : ℕ) → 0 < (if b then suc count else y) → (0 < y → x ≡ y) → (if b then suc count else x) ≡ (if b then suc count else y)
either_more true count x y some same = refl
either_more false count x y some same = same some

angles_from_more : (count opened closed : ℕ) (front rest : List Mark) → 0 < angles_from count opened closed front → angles_from count opened closed (front ++ rest) ≡ angles_from count opened closed front
angles_from_more count opened closed [] rest some = absurd (omega (arith, some))
angles_from_more count opened closed (mark ∷ front) rest some =
    either_more ((opened + mark.opens) == (closed + mark.closes)) count _ _ some
    (λ later. angles_from_more (suc count) (opened + mark.opens) (closed + mark.closes) front rest later)

either_within : (b : Bool) (count n size : ℕ) → n ≤ suc count + size → (if b then suc count else n) ≤ suc count + size
either_within true count n size within = omega arith
either_within false count n size within = within

angles_from_within : (count opened closed : ℕ) (marks : List Mark) → angles_from count opened closed marks ≤ count + length marks
angles_from_within count opened closed [] = omega arith
angles_from_within count opened closed (mark ∷ marks) =
    let here : angles_from count opened closed (mark ∷ marks) ≤ suc count + length marks =
    either_within ((opened + mark.opens) == (closed + mark.closes)) count (angles_from (suc count) (opened + mark.opens) (closed + mark.closes) marks) (length marks)
    (angles_from_within (suc count) (opened + mark.opens) (closed + mark.closes) marks) in
    omega (arith, here)

part_within : (b : Bool) (n size : ℕ) → n ≤ size → (if b then n else 0) ≤ size
part_within true n size within = within
part_within false n size within = omega arith

part_more : (b : Bool) (x y : ℕ) → (b && ((if b then y else 0) == 0)) ≡ false → (0 < y → x ≡ y) → (if b then x else 0) ≡ (if b then y else 0)
part_more true x zero closed same = cc
part_more true x (suc y) closed same = same (omega arith)
part_more false x y closed same = refl

angles_more_at : (mark : Mark) (front rest : List Mark) → (mark.begins_angle && angles (mark ∷ front) == 0) ≡ false → angles (mark ∷ (front ++ rest)) ≡ angles (mark ∷ front)
unfolding angles
angles_more_at mark front rest closed = part_more mark.begins_angle _ _ closed (λ some. angles_from_more 0 0 0 (mark ∷ front) rest some)

angles_within_at : (mark : Mark) (marks : List Mark) → angles (mark ∷ marks) ≤ suc (length marks)
unfolding angles
angles_within_at mark marks =
    let bound : angles_from 0 0 0 (mark ∷ marks) ≤ 0 + suc (length marks) = angles_from_within 0 0 0 (mark ∷ marks) in
    part_within mark.begins_angle (angles_from 0 0 0 (mark ∷ marks)) (suc (length marks)) (omega (arith, bound))

neither : (a b : Bool) → (a || b) ≡ false → (a ≡ false) × (b ≡ false)
neither true b is = cc
neither false b is = (refl, is)

with_angles_more : (front rest : List Mark) → list_any is_open (with_angles front) ≡ false → with_angles (front ++ rest) ≡ with_angles front ++ with_angles rest
with_angles_more [] rest closed = refl
with_angles_more (mark ∷ front) rest closed =
    let parts = neither (mark.begins_angle && angles (mark ∷ front) == 0) (list_any is_open (with_angles front)) closed in
    ap₂ (λ n l. record mark { angles = n } ∷ l) (angles_more_at mark front rest parts.0) (with_angles_more front rest parts.1)

within_angles : (marks : List Mark) → Within (with_angles marks)
within_angles [] = tt
within_angles (mark ∷ marks) = (omega (arith, angles_within_at mark marks, length_angles marks), within_angles marks)

wall_angles : (wall : Mark) (rest : List Mark) → wall.begins_angle ≡ false → angles (wall ∷ rest) ≡ 0
unfolding angles
wall_angles wall rest absent = unless wall.begins_angle (angles_from 0 0 0 (wall ∷ rest)) 0 absent

-- what the later passes leave as it was
open_heads : (marks : List Mark) → list_any is_open (with_heads marks) ≡ list_any is_open marks
open_heads [] = refl
open_heads (mark ∷ marks) = ap (λ b. is_open mark || b) (open_heads marks)

open_modifiers : (marks : List Mark) → list_any is_open (with_modifiers marks) ≡ list_any is_open marks
open_modifiers [] = refl
open_modifiers (mark ∷ marks) = ap (λ b. is_open mark || b) (open_modifiers marks)

open_settled : (marks : List Mark) → list_any is_open (settled marks) ≡ list_any is_open (with_angles marks)
open_settled marks = open_heads (with_modifiers (with_angles marks)) ∙ open_modifiers (with_angles marks)

settled_more : (front : List Mark) (wall : Mark) (rest : List Mark) → IsWall wall → list_any is_open (settled front) ≡ false → settled (front ++ wall ∷ rest) ≡ settled front ++ settled (wall ∷ rest)
settled_more front wall rest is closed =
    let angled : Mark = record wall { angles = angles (wall ∷ rest) } in
    let modified : Mark = record angled { modifies = modifies (angled ∷ with_angles rest) } in
    ap (λ l. with_heads (with_modifiers l)) (with_angles_more front (wall ∷ rest) (sym (open_settled front) ∙ closed))
    ∙ ap with_heads (modifiers_more (with_angles front) angled (with_angles rest) is.1)
    ∙ heads_more (with_modifiers (with_angles front)) modified (with_modifiers (with_angles rest))
    (is.0, is.1, wall_angles wall rest is.2, modifies_wall angled (with_angles rest) is.1)
    (within_modifiers (with_angles front) (within_angles front))

-- by its own text
wall_plain : (class : Class) (bytes : List ℕ) → is_wall (leaf_sort class bytes) ≡ true → leaf_keyword class bytes ≡ Plain
wall_plain class.Word bytes is = cc
wall_plain _ bytes is = refl

wall_no_angle : (s : Sort) (bytes : List ℕ) → is_wall s ≡ true → begins_angle s bytes ≡ false
wall_no_angle sort.Operator bytes is = cc
wall_no_angle _ bytes is = refl

wall_own : (text : List ℕ) (tree : Tree) → is_wall (mark_of text tree).sort ≡ true → IsWall (mark_of text tree)
unfolding mark_between
wall_own text (leaf token) is = (is, wall_plain token.class (bytes_of text token) is, wall_no_angle (leaf_sort token.class (bytes_of text token)) (bytes_of text token) is)
wall_own text (nest left inner right) is = (is, wall_plain left.class (bytes_of text left) is, wall_no_angle (leaf_sort left.class (bytes_of text left)) (bytes_of text left) is)

-- the element before what follows a front
abbrev last_of : Option Mark → List Mark → Option Mark
last_of previous [] = previous
last_of previous (mark ∷ marks) = last_of (Some mark) marks

joins_more : (previous : Option Mark) (front rest : List Mark) → with_joins previous (front ++ rest) ≡ with_joins previous front ++ with_joins (last_of previous front) rest
joins_more previous [] rest = refl
joins_more previous (mark ∷ front) rest =
    let first : Mark = record mark { joins = joins previous mark mark.sort } in
    ap (λ l. first ∷ l) (joins_more (Some mark) front rest)

own_more : (text : List ℕ) (front rest : List Element) → own_marks text (forest_of (front ++ rest)) ≡ own_marks text (forest_of front) ++ own_marks text (forest_of rest)
own_more text [] rest = refl
own_more text (element ∷ front) rest = ap (λ l. mark_of text (tree_of element) ∷ l) (own_more text front rest)

behind_more : (text : List ℕ) (previous : Option Mark) (front rest : List Element) → list_behind previous (own_marks text (forest_of (front ++ rest))) ≡ settled (with_joins previous (own_marks text (forest_of front)) ++ with_joins (last_of previous (own_marks text (forest_of front))) (own_marks text (forest_of rest)))
behind_more text previous front rest =
    ap settled (ap (with_joins previous) (own_more text front rest) ∙ joins_more previous (own_marks text (forest_of front)) (own_marks text (forest_of rest)))

front_of : (text : List ℕ) (previous : Option Mark) (front rest : List Element) (marks : List Mark) → marks ≡ list_behind previous (own_marks text (forest_of front)) → is_walled text (forest_of rest) ≡ true → list_any is_open marks ≡ false → marks ≡ take (length marks) (list_behind previous (own_marks text (forest_of (front ++ rest))))
front_of text previous front [] marks are walled closed =
    sym (ap (λ l. take (length marks) (list_behind previous (own_marks text (forest_of l)))) (append-nil front)
    ∙ ap (take (length marks)) (sym are)
    ∙ take_all (length marks) marks (omega arith))
front_of text previous front (element ∷ rest) marks are walled closed =
    let own = with_joins previous (own_marks text (forest_of front)) in
    let before = last_of previous (own_marks text (forest_of front)) in
    let wall = mark_of text (tree_of element) in
    let whole : list_behind previous (own_marks text (forest_of (front ++ element ∷ rest))) ≡ marks ++ settled (with_joins before (own_marks text (forest_of (element ∷ rest)))) =
    behind_more text previous front (element ∷ rest)
    ∙ settled_more own _ (with_joins (Some wall) (own_marks text (forest_of rest))) (wall_own text (tree_of element) walled) (ap (list_any is_open) (sym are) ∙ closed)
    ∙ ap (λ l. l ++ settled (with_joins before (own_marks text (forest_of (element ∷ rest))))) (sym are) in
    sym (ap (take (length marks)) whole ∙ take-append_seam marks _)

-- a list from a place on
angles_drop : (n : ℕ) (marks : List Mark) → drop n (with_angles marks) ≡ with_angles (drop n marks)
angles_drop zero marks = refl
angles_drop (suc n) [] = refl
angles_drop (suc n) (mark ∷ marks) = angles_drop n marks

modifiers_drop : (n : ℕ) (marks : List Mark) → drop n (with_modifiers marks) ≡ with_modifiers (drop n marks)
modifiers_drop zero marks = refl
modifiers_drop (suc n) [] = refl
modifiers_drop (suc n) (mark ∷ marks) = modifiers_drop n marks

settled_drop : (n : ℕ) (marks : List Mark) → drop n (settled marks) ≡ settled (drop n marks)
settled_drop n marks =
    with_drop n (with_modifiers (with_angles marks))
    ∙ ap with_heads (modifiers_drop n (with_angles marks) ∙ ap with_modifiers (angles_drop n marks))

abbrev before : Option Mark → ℕ → List Mark → Option Mark
before previous zero marks = previous
before previous (suc at) marks = slice_get marks at

before_more : (n : ℕ) (mark : Mark) (marks : List Mark) → before (Some mark) n marks ≡ slice_get (mark ∷ marks) n
before_more zero mark marks = refl
before_more (suc n) mark marks = refl

joins_drop : (previous : Option Mark) (n : ℕ) (marks : List Mark) → drop n (with_joins previous marks) ≡ with_joins (before previous n marks) (drop n marks)
joins_drop previous zero marks = refl
joins_drop previous (suc n) [] = refl
joins_drop previous (suc n) (mark ∷ marks) = joins_drop (Some mark) n marks ∙ ap (λ p. with_joins p (drop n marks)) (before_more n mark marks)

before_none : (n : ℕ) (marks : List Mark) → before None n marks ≡ mark_before n marks
before_none zero marks = refl
before_none (suc n) marks = refl

own_drop : (text : List ℕ) (n : ℕ) (elements : List Element) → drop n (own_marks text (forest_of elements)) ≡ own_marks text (forest_of (drop n elements))
own_drop text zero elements = refl
own_drop text (suc n) [] = refl
own_drop text (suc n) (element ∷ elements) = own_drop text n elements

pub level_drop : (text : List ℕ) (at : ℕ) (elements rest : List Element) (previous : Option Mark) → previous ≡ mark_before at (own_marks text (forest_of elements)) → rest ≡ drop at elements → drop at (level text (forest_of elements)) ≡ list_behind previous (own_marks text (forest_of rest))
unfolding level in_list
level_drop text at elements rest previous first left =
    let own = own_marks text (forest_of elements) in
    settled_drop at (with_joins None own)
    ∙ ap settled (joins_drop None at own)
    ∙ ap₂ list_behind (before_none at own ∙ sym first) (own_drop text at elements ∙ ap (λ l. own_marks text (forest_of l)) (sym left))

-- so many of them alone
pub front_is : (text : List ℕ) (at size : ℕ) (elements rest : List Element) (previous : Option Mark) (marks : List Mark) → previous ≡ mark_before at (own_marks text (forest_of elements)) → rest ≡ drop at elements → marks ≡ list_behind previous (own_marks text (forest_of (take size rest))) → is_walled text (forest_of (drop size rest)) ≡ true → list_any is_open marks ≡ false → marks ≡ take (length marks) (drop at (level text (forest_of elements)))
front_is text at size elements rest previous marks first left are walled closed =
    front_of text previous (take size rest) (drop size rest) marks are walled closed
    ∙ ap (take (length marks)) (ap (λ l. list_behind previous (own_marks text (forest_of l))) (take-append-drop size rest) ∙ sym (level_drop text at elements rest previous first left))

-- all of them
pub rest_is : (text : List ℕ) (at : ℕ) (elements rest : List Element) (previous : Option Mark) (marks : List Mark) → previous ≡ mark_before at (own_marks text (forest_of elements)) → rest ≡ drop at elements → marks ≡ list_behind previous (own_marks text (forest_of rest)) → marks ≡ take (length marks) (drop at (level text (forest_of elements)))
rest_is text at elements rest previous marks first left are =
    sym (ap (take (length marks)) (level_drop text at elements rest previous first left ∙ sym are) ∙ take_all (length marks) marks (omega arith))

-- the element at a place, by its own text
own_at : (text : List ℕ) (elements : List Element) (n : ℕ) (element : Element) → slice_get elements n ≡ Some element → slice_get (own_marks text (forest_of elements)) n ≡ Some (mark_of text (tree_of element))
own_at text [] n element is = cc
own_at text (first ∷ elements) zero element is = let same : first ≡ element = cc in ap (λ e. Some (mark_of text (tree_of e))) same
own_at text (first ∷ elements) (suc n) element is = own_at text elements n element is

own_past : (text : List ℕ) (elements : List Element) (n : ℕ) → length elements ≤ n → slice_get (own_marks text (forest_of elements)) n ≡ None
own_past text [] n past = refl
own_past text (first ∷ elements) zero past = absurd (omega (arith, past))
own_past text (first ∷ elements) (suc n) past = own_past text elements n (omega (arith, past))

pub own_before : (text : List ℕ) (elements : List Element) (at : ℕ) (element : Element) → 0 < at → slice_get elements (at - 1) ≡ Some element → Some (mark_of text (tree_of element)) ≡ mark_before at (own_marks text (forest_of elements))
own_before text elements zero element some is = absurd (omega (arith, some))
own_before text elements (suc at) element some is =
    let place : suc at - 1 ≡ at = omega arith in
    sym (own_at text elements at element (sym (ap (slice_get elements) place) ∙ is))

pub none_before : (text : List ℕ) (elements : List Element) (at : ℕ) → 0 < at → length elements ≤ at - 1 → None ≡ mark_before at (own_marks text (forest_of elements))
none_before text elements zero some past = absurd (omega (arith, some))
none_before text elements (suc at) some past = sym (own_past text elements at (omega (arith, past)))

-- a list has as many elements as it had
length_heads : (marks : List Mark) → length (with_heads marks) ≡ length marks
length_heads [] = refl
length_heads (mark ∷ marks) = ap suc (length_heads marks)

pub length_behind : (text : List ℕ) (previous : Option Mark) (elements : List Element) → length (list_behind previous (own_marks text (forest_of elements))) ≡ length elements
length_behind text previous elements =
    let own = own_marks text (forest_of elements) in
    length_heads (with_modifiers (with_angles (with_joins previous own)))
    ∙ length_modifiers (with_angles (with_joins previous own))
    ∙ length_angles (with_joins previous own)
    ∙ length_joins previous own
    ∙ length_own text elements
