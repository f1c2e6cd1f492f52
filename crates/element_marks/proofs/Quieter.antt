-- What a list lacks in which no macro use and no attribute begins, and what passes over a list leave as it was.
use Rattle.std.proofs.Common.{◌≡◌, refl, ℕ, zero, suc, ◌+◌, ◌==◌, ◌∙◌, ap, sym, List, [], ◌∷◌, drop, map, slice_index, Option, Some, None, Result, Err, not, Bool, true, false, ◌&&◌, ◌||◌, if◌then◌else◌, codes}
use Rattle.std.specs.Str.{bytes_eq}
use Rattle.swift_lexer.specs.declared.token.Class.{Class}
use Rattle.swift_lexer.specs.declared.token.Class.TheVariants as class
use Rattle.swift_lexer.specs.declared.token.Token.{Token}
use Rattle.swift_lexer.specs.Tiles.{bytes_of}
use Rattle.swift_base.specs.declared.place.Span.{Span}
use Rattle.swift_lexer.specs.Trees.{Tree, leaf, nest, Forest, none, cons}
use Rattle.element_marks.specs.declared.mark.Mark.{Mark}
use Rattle.element_marks.specs.declared.mark.Sort.{Sort}
use Rattle.element_marks.specs.declared.mark.Sort.TheVariants as sort
use Rattle.element_marks.specs.Words.{is_accessor, is_accessor_modifier, is_class, is_modifier, is_observer}
use Rattle.element_marks.specs.Sorts.{is_arguments, is_braces, is_at, is_at_sort, is_name, is_use, is_use_sort}
use Rattle.element_marks.specs.Marks.{mark_between, mark_of, leaf_keyword, leaf_sort, mark_sort, operator_sort, group_sort}
use Rattle.element_marks.specs.Heads.{attribute_length, by_length, first_is, in_list, modifier_length, name_tail, prefix_length, with_angles, with_heads, with_joins, with_modifiers}
use Rattle.element_marks.specs.Levels.{level, own_marks}
use Rattle.element_marks.specs.Spans.{name_between, name_of}
use Rattle.element_marks.specs.Quiet.{front, is_quiet, is_quiet_class, may_list_accessors}
use Rattle.element_marks.specs.Accessors.{accessor_front, accessor_length, one_if, is_some, lists_accessors, observes_from, word_from}
use Rattle.element_marks.specs.Uses.{call_length, closures_length, use_length}

pub sort_is : (text : List ℕ) (tree : Tree) → leaf_sort (front tree).class (bytes_of text (front tree)) ≡ (mark_of text tree).sort
unfolding mark_between
sort_is text (leaf token) = refl
sort_is text (nest left inner right) = refl

pub keyword_is : (text : List ℕ) (tree : Tree) → leaf_keyword (front tree).class (bytes_of text (front tree)) ≡ (mark_of text tree).keyword
unfolding mark_between
keyword_is text (leaf token) = refl
keyword_is text (nest left inner right) = refl

start_is : (text : List ℕ) (tree : Tree) → (front tree).start ≡ (mark_of text tree).start
unfolding mark_between
start_is text (leaf token) = refl
start_is text (nest left inner right) = refl

pub name_is : (text : List ℕ) (tree : Tree) (token : Token) (end : ℕ) (sort : Sort) → token ≡ front tree → end ≡ (mark_of text tree).end → sort ≡ (mark_of text tree).sort → name_between token.start end sort ≡ name_of (mark_of text tree)
name_is text tree token end sort begins ends is =
    let start : token.start ≡ (mark_of text tree).start = ap (λ t. t.start) begins ∙ start_is text tree in
    λ i. name_between (start i) (ends i) (is i)

-- an element without what its neighbours make of it
abbrev pub bare : Mark → Mark
bare mark = record mark { joins = false; angles = 0; modifies = false; head = 0 }

bare_joins : (previous : Option Mark) (marks : List Mark) → map bare (with_joins previous marks) ≡ map bare marks
bare_joins previous [] = refl
bare_joins previous (mark ∷ marks) = ap (λ l. bare mark ∷ l) (bare_joins (Some mark) marks)

bare_angles : (marks : List Mark) → map bare (with_angles marks) ≡ map bare marks
bare_angles [] = refl
bare_angles (mark ∷ marks) = ap (λ l. bare mark ∷ l) (bare_angles marks)

bare_modifiers : (marks : List Mark) → map bare (with_modifiers marks) ≡ map bare marks
bare_modifiers [] = refl
bare_modifiers (mark ∷ marks) = ap (λ l. bare mark ∷ l) (bare_modifiers marks)

bare_heads : (marks : List Mark) → map bare (with_heads marks) ≡ map bare marks
bare_heads [] = refl
bare_heads (mark ∷ marks) = ap (λ l. bare mark ∷ l) (bare_heads marks)

-- the elements of a list are what they are by their own text, and more
pub bare_level : (text : List ℕ) (forest : Forest) → map bare (level text forest) ≡ map bare (own_marks text forest)
unfolding level in_list
bare_level text forest =
    bare_heads (with_modifiers (with_angles (with_joins None (own_marks text forest))))
    ∙ bare_modifiers (with_angles (with_joins None (own_marks text forest)))
    ∙ bare_angles (with_joins None (own_marks text forest))
    ∙ bare_joins None (own_marks text forest)

abbrev pub is_loud : Sort → Bool
is_loud s = is_use_sort s || is_at_sort s

-- no element begins a use or an attribute
abbrev pub Quiet : List Mark → Type 0
Quiet [] = Unit {0}
Quiet (mark ∷ marks) = (is_loud mark.sort ≡ false) × Quiet marks

chosen : (b : Bool) (one other : Sort) → is_loud one ≡ false → is_loud other ≡ false → is_loud (if b then one else other) ≡ false
chosen true one other first second = first
chosen false one other first second = second

quiet_sort : (class : Class) (bytes : List ℕ) → is_quiet_class class ≡ true → is_loud (leaf_sort class bytes) ≡ false
unfolding mark_sort operator_sort group_sort
quiet_sort class.Word bytes is = refl
quiet_sort class.Quoted bytes is = refl
quiet_sort class.Number bytes is = refl
quiet_sort class.Str bytes is = refl
quiet_sort class.Pound bytes is = cc
quiet_sort class.At bytes is = cc
quiet_sort class.Punct bytes is =
    chosen (slice_index bytes 0 == 44) sort.Comma _ refl (chosen (slice_index bytes 0 == 58) sort.Colon _ refl (chosen (slice_index bytes 0 == 59) sort.Semicolon _ refl (chosen (slice_index bytes 0 == 46) sort.Dot sort.Backslash refl refl)))
quiet_sort class.Oper bytes is =
    chosen (bytes_eq bytes (codes "=")) sort.Equals _ refl (chosen (bytes_eq bytes (codes "->")) sort.Arrow sort.Operator refl refl)
quiet_sort class.LeftBracket bytes is = chosen (slice_index bytes 0 == 40) sort.Parentheses _ refl (chosen (slice_index bytes 0 == 91) sort.Brackets sort.Braces refl refl)
quiet_sort class.RightBracket bytes is = chosen (slice_index bytes 0 == 40) sort.Parentheses _ refl (chosen (slice_index bytes 0 == 91) sort.Brackets sort.Braces refl refl)

both : (a b : Bool) → (a && b) ≡ true → (a ≡ true) × (b ≡ true)
both true b is = (refl, is)
both false b is = cc

neither : (a b : Bool) → (a || b) ≡ false → (a ≡ false) × (b ≡ false)
neither true b is = cc
neither false b is = (refl, is)

quiet_own : (text : List ℕ) (forest : Forest) → is_quiet forest ≡ true → Quiet (own_marks text forest)
quiet_own text none is = tt
quiet_own text (cons tree forest) is =
    let parts : (is_quiet_class (front tree).class ≡ true) × (is_quiet forest ≡ true) = both (is_quiet_class (front tree).class) (is_quiet forest) is in
    (ap is_loud (sym (sort_is text tree)) ∙ quiet_sort (front tree).class (bytes_of text (front tree)) parts.0, quiet_own text forest parts.1)

abbrev first_sort : List Mark → Sort
first_sort [] = sort.Word
first_sort (mark ∷ marks) = mark.sort

abbrev rest : List Mark → List Mark
rest [] = []
rest (mark ∷ marks) = marks

-- lists that are alike, their neighbours aside, are both quiet
quiet_bare : (marks others : List Mark) → map bare marks ≡ map bare others → Quiet others → Quiet marks
quiet_bare [] others is quiet = tt
quiet_bare (mark ∷ marks) [] is quiet = cc
quiet_bare (mark ∷ marks) (other ∷ others) is quiet =
    let first : mark.sort ≡ other.sort = ap first_sort is in
    let later : map bare marks ≡ map bare others = ap rest is in
    (ap is_loud first ∙ quiet.0, quiet_bare marks others later quiet.1)

pub quiet_level : (text : List ℕ) (forest : Forest) → is_quiet forest ≡ true → Quiet (level text forest)
quiet_level text forest is = quiet_bare (level text forest) (own_marks text forest) (bare_level text forest) (quiet_own text forest is)

unless : {A : Type 0} (b : Bool) (one other : A) → b ≡ false → (if b then one else other) ≡ other
unless true one other is = cc
unless false one other is = refl

no_at : (mark : Mark) (marks : List Mark) → is_at mark ≡ false → attribute_length (mark ∷ marks) ≡ 0
unfolding attribute_length
no_at mark [] is = refl
no_at mark (name ∷ marks) is = unless (is_at mark && is_name name) (suc (suc (name_tail marks))) 0 (ap (λ b. b && is_name name) is)

-- no attribute and no use begins a quiet list
pub quiet_attribute : (marks : List Mark) → Quiet marks → attribute_length marks ≡ 0
unfolding attribute_length
quiet_attribute [] quiet = refl
quiet_attribute (mark ∷ marks) quiet = no_at mark marks (neither (is_use mark) (is_at mark) quiet.0).1

pub quiet_use : (blocks : List ℕ) (before marks : List Mark) → Quiet marks → use_length blocks before marks ≡ 0
unfolding use_length
quiet_use blocks before [] quiet = refl
quiet_use blocks before (mark ∷ marks) quiet =
    unless (is_use mark) (suc (call_length marks + closures_length blocks before (drop (call_length marks) marks))) 0 (neither (is_use mark) (is_at mark) quiet.0).0

pub quiet_drop : (n : ℕ) (marks : List Mark) → Quiet marks → Quiet (drop n marks)
quiet_drop zero marks quiet = quiet
quiet_drop (suc n) [] quiet = tt
quiet_drop (suc n) (mark ∷ marks) quiet = quiet_drop n marks quiet.1

no_modifier : (a b c : Bool) → a ≡ false → b ≡ false → (a || (b && c)) ≡ false
no_modifier true b c one other = cc
no_modifier false true c one other = cc
no_modifier false false c one other = refl

unread : (n : ℕ) (found : Bool) (begins : ℕ → Bool) → n ≡ 0 → found ≡ false → by_length n found begins ≡ false
unread zero found begins absent is = is
unread (suc n) found begins absent is = cc

unlisted : (n at : ℕ) (begins : ℕ → Result (List Span) ℕ) → n ≡ 0 → is_some (by_length n (Err at) begins) ≡ false
unlisted zero at begins absent = refl
unlisted (suc n) at begins absent = cc

no_prefix : (mark : Mark) (marks : List Mark) → attribute_length (mark ∷ marks) ≡ 0 → mark.modifies ≡ false → prefix_length (mark ∷ marks) ≡ 0
no_prefix mark marks absent unmodified =
    ap (λ n. by_length n (modifier_length (mark ∷ marks)) suc) absent ∙ unless mark.modifies (if first_is is_arguments marks then 2 else 1) 0 unmodified

no_observer : (mark : Mark) (marks : List Mark) → attribute_length (mark ∷ marks) ≡ 0 → mark.modifies ≡ false → is_observer mark.keyword ≡ false → observes_from 0 (mark ∷ marks) ≡ false
no_observer mark marks absent unmodified is =
    unread (prefix_length (mark ∷ marks)) (is_observer mark.keyword) (λ more. observes_from more marks) (no_prefix mark marks absent unmodified) is

no_word : (mark : Mark) (marks : List Mark) → attribute_length (mark ∷ marks) ≡ 0 → is_accessor_modifier mark.keyword ≡ false → is_accessor mark.keyword ≡ false → word_from 0 0 (mark ∷ marks) ≡ 0
no_word mark marks absent unmodified is =
    ap (λ n. by_length n (if is_accessor_modifier mark.keyword then word_from 1 0 marks else (if is_accessor mark.keyword then 1 else 0)) (λ more. word_from 1 more marks)) absent
    ∙ unless (is_accessor_modifier mark.keyword) (word_from 1 0 marks) (if is_accessor mark.keyword then 1 else 0) unmodified
    ∙ unless (is_accessor mark.keyword) 1 0 is

abbrev length_by : ℕ → List Mark → ℕ
length_by words marks =
    let front = accessor_front words marks in
    let braces = first_is is_braces (drop front marks) in
    if words == 0 || (false && not braces) then 0 else front + one_if braces

no_accessor : (marks : List Mark) → word_from 0 0 marks ≡ 0 → accessor_length false marks ≡ 0
unfolding accessor_length
no_accessor marks absent = ap (λ n. length_by n marks) absent

no_accessors : (mark : Mark) (marks : List Mark) → word_from 0 0 (mark ∷ marks) ≡ 0 → lists_accessors (mark ∷ marks) ≡ false
unfolding lists_accessors
no_accessors mark marks absent = unlisted (accessor_length false (mark ∷ marks)) mark.start _ (no_accessor (mark ∷ marks) absent)

-- no accessor begins a quiet list whose first element may not stand there
pub quiet_accessors : (text : List ℕ) (forest : Forest) → is_quiet forest ≡ true → may_list_accessors text forest ≡ false → (false ≡ observes_from 0 (level text forest)) × (false ≡ lists_accessors (level text forest))
unfolding level in_list lists_accessors
quiet_accessors text none quiet is = (refl, refl)
quiet_accessors text (cons tree forest) quiet is =
    let k = (mark_of text tree).keyword in
    let observer = neither (is_modifier k || is_class k || is_accessor_modifier k || is_accessor k) (is_observer k) is in
    let accessor = neither (is_modifier k || is_class k || is_accessor_modifier k) (is_accessor k) observer.0 in
    let of_accessor = neither (is_modifier k || is_class k) (is_accessor_modifier k) accessor.0 in
    let modifier = neither (is_modifier k) (is_class k) of_accessor.0 in
    let absent = quiet_attribute (level text (cons tree forest)) (quiet_level text (cons tree forest) quiet) in (
      sym (no_observer _ _ absent (no_modifier (is_modifier k) (is_class k) _ modifier.0 modifier.1) observer.1),
      sym (no_accessors _ _ (no_word _ _ absent of_accessor.1 accessor.1)),
    )
