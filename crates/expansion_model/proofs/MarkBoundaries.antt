-- The elements of a list begin and end between characters.
use Rattle.std.proofs.Common.{◌≡◌, refl, ℕ, zero, suc, ◌+◌, List, [], ◌∷◌, ◌++◌, take, drop, Option, Some, None, Bool, true, false, if◌then◌else◌}
use Rattle.std.specs.Prelude.{min, slice_index, ◌==◌, codes}
use Rattle.std.specs.List.{AllByRecursion}
use Rattle.std.specs.Str.{IsCharBoundary, IsUtf8, bytes_eq}
use Rattle.swift_lexer.specs.declared.token.Class.{Class}
use Rattle.swift_lexer.specs.declared.token.Class.TheVariants as class
use Rattle.swift_lexer.specs.declared.token.Token.{Token}
use Rattle.swift_lexer.specs.Characters.{IsOfCharacters}
use Rattle.swift_lexer.specs.Tiles.{IsTile, bytes_of}
use Rattle.swift_lexer.specs.Trees.{Tree, leaf, nest, Forest, none, cons, tree_tokens, forest_tokens}
use Rattle.element_marks.specs.declared.mark.Mark.{Mark}
use Rattle.element_marks.specs.declared.mark.Sort.{Sort}
use Rattle.element_marks.specs.declared.mark.Sort.TheVariants as sort
use Rattle.element_marks.specs.Sorts.{is_use, is_use_sort}
use Rattle.element_marks.specs.Marks.{mark_sort, operator_sort, group_sort, leaf_sort, mark_between, mark_of}
use Rattle.element_marks.specs.Spans.{end_of}
use Rattle.element_marks.specs.Heads.{with_joins, with_angles, with_modifiers, with_heads, in_list}
use Rattle.element_marks.specs.Levels.{own_marks, level}
use Rattle.expansion_model.proofs.Boundaries.{behind_pound, lesser_boundary}

module _ {A : Type 0} (P : A → Type 0) where
  pub each_take : (n : ℕ) (xs : List A) → AllByRecursion P xs → AllByRecursion P (take n xs)
  each_take zero xs each = tt
  each_take (suc n) [] each = tt
  each_take (suc n) (x ∷ xs) each = (each.0, each_take n xs each.1)

  pub each_drop : (n : ℕ) (xs : List A) → AllByRecursion P xs → AllByRecursion P (drop n xs)
  each_drop zero xs each = each
  each_drop (suc n) [] each = tt
  each_drop (suc n) (x ∷ xs) each = each_drop n xs each.1

  pub each_append : (xs ys : List A) → AllByRecursion P xs → AllByRecursion P ys → AllByRecursion P (xs ++ ys)
  each_append [] ys each more = more
  each_append (x ∷ xs) ys each more = (each.0, each_append xs ys each.1 more)

  pub each_first : (xs ys : List A) → AllByRecursion P (xs ++ ys) → AllByRecursion P xs
  each_first [] ys each = tt
  each_first (x ∷ xs) ys each = (each.0, each_first xs ys each.1)

  pub each_second : (xs ys : List A) → AllByRecursion P (xs ++ ys) → AllByRecursion P ys
  each_second [] ys each = each
  each_second (x ∷ xs) ys each = each_second xs ys each.1

-- the token lies in the text, and begins and ends between characters
abbrev pub IsPlaced : List ℕ → Token → Type 0
IsPlaced text token = IsTile text token × IsOfCharacters text token

abbrev mutual
  pub IsTreePlaced : List ℕ → Tree → Type 0
  IsTreePlaced text (leaf token) = IsPlaced text token
  IsTreePlaced text (nest left inner right) = IsPlaced text left × IsForestPlaced text inner × IsPlaced text right

  pub IsForestPlaced : List ℕ → Forest → Type 0
  IsForestPlaced text none = Unit {0}
  IsForestPlaced text (cons tree forest) = IsTreePlaced text tree × IsForestPlaced text forest

mutual
  tree_placed : (text : List ℕ) (tree : Tree) → AllByRecursion (IsPlaced text) (tree_tokens tree) → IsTreePlaced text tree
  tree_placed text (leaf token) each = each.0
  tree_placed text (nest left inner right) each =
      let behind = each_second (IsPlaced text) (forest_tokens inner) (right ∷ []) each.1 in
      (each.0, forest_placed text inner (each_first (IsPlaced text) (forest_tokens inner) (right ∷ []) each.1), behind.0)

  pub forest_placed : (text : List ℕ) (forest : Forest) → AllByRecursion (IsPlaced text) (forest_tokens forest) → IsForestPlaced text forest
  forest_placed text none each = tt
  forest_placed text (cons tree forest) each =
      (tree_placed text tree (each_first (IsPlaced text) (tree_tokens tree) (forest_tokens forest) each), forest_placed text forest (each_second (IsPlaced text) (tree_tokens tree) (forest_tokens forest) each))

-- the element begins and ends between characters, and so does its name, where it begins a use
pub record Bounded (text : List ℕ) (start end : ℕ) (use_ : Bool) : Type 0 where
  pub begins : IsCharBoundary text start
  pub ends : IsCharBoundary text end
  pub name : use_ ≡ true → IsCharBoundary text (min (start + 1) end)

abbrev pub IsBounded : List ℕ → Mark → Type 0
IsBounded text mark = Bounded text mark.start mark.end (is_use mark)

-- only a `#` word begins a use
plain_if : (which : Bool) (one other : Sort) → is_use_sort one ≡ false → is_use_sort other ≡ false → is_use_sort (if which then one else other) ≡ false
plain_if true one other first second = first
plain_if false one other first second = second

plain_mark : (byte : ℕ) → is_use_sort (mark_sort byte) ≡ false
unfolding mark_sort
plain_mark byte =
    plain_if (byte == 44) sort.Comma _ refl (plain_if (byte == 58) sort.Colon _ refl (plain_if (byte == 59) sort.Semicolon _ refl (plain_if (byte == 46) sort.Dot sort.Backslash refl refl)))

plain_operator : (bytes : List ℕ) → is_use_sort (operator_sort bytes) ≡ false
unfolding operator_sort
plain_operator bytes = plain_if (bytes_eq bytes (codes "=")) sort.Equals _ refl (plain_if (bytes_eq bytes (codes "->")) sort.Arrow sort.Operator refl refl)

plain_group : (byte : ℕ) → is_use_sort (group_sort byte) ≡ false
unfolding group_sort
plain_group byte = plain_if (byte == 40) sort.Parentheses _ refl (plain_if (byte == 91) sort.Brackets sort.Braces refl refl)

not_both : {A : Type 0} (b : Bool) → b ≡ true → b ≡ false → A
not_both b is not_ = cc

use_class : (of_class : Class) (bytes : List ℕ) → is_use_sort (leaf_sort of_class bytes) ≡ true → of_class ≡ class.Pound
use_class class.Word bytes is = cc
use_class class.Quoted bytes is = cc
use_class class.Number bytes is = cc
use_class class.Str bytes is = cc
use_class class.Pound bytes is = refl
use_class class.At bytes is = cc
use_class class.Punct bytes is = not_both (is_use_sort (mark_sort (slice_index bytes 0))) is (plain_mark (slice_index bytes 0))
use_class class.Oper bytes is = not_both (is_use_sort (operator_sort bytes)) is (plain_operator bytes)
use_class class.LeftBracket bytes is = not_both (is_use_sort (group_sort (slice_index bytes 0))) is (plain_group (slice_index bytes 0))
use_class class.RightBracket bytes is = not_both (is_use_sort (group_sort (slice_index bytes 0))) is (plain_group (slice_index bytes 0))

module _ (text : List ℕ) (utf8 : IsUtf8 text) where
  between_bounded : (token : Token) (end : ℕ) → IsPlaced text token → IsCharBoundary text end → IsBounded text (mark_between text token end)
  unfolding mark_between
  between_bounded token end placed ends = record {
    begins = placed.1.start;
    ends = ends;
    name = λ is. lesser_boundary text (token.start + 1) end (behind_pound text token utf8 placed.0 (use_class token.class (bytes_of text token) is)) ends;
  }

  mark_bounded : (tree : Tree) → IsTreePlaced text tree → IsBounded text (mark_of text tree)
  mark_bounded (leaf token) placed = between_bounded token token.end placed placed.1.end
  mark_bounded (nest left inner right) placed = between_bounded left right.end placed.0 placed.2.1.end

  own_bounded : (forest : Forest) → IsForestPlaced text forest → AllByRecursion (IsBounded text) (own_marks text forest)
  own_bounded none placed = tt
  own_bounded (cons tree forest) placed = (mark_bounded tree placed.0, own_bounded forest placed.1)

-- what the elements of a list know of their neighbours doesn't move them
module _ (text : List ℕ) where
  joins_bounded : (previous : Option Mark) (marks : List Mark) → AllByRecursion (IsBounded text) marks → AllByRecursion (IsBounded text) (with_joins previous marks)
  joins_bounded previous [] each = tt
  joins_bounded previous (mark ∷ marks) each = (each.0, joins_bounded (Some mark) marks each.1)

  angles_bounded : (marks : List Mark) → AllByRecursion (IsBounded text) marks → AllByRecursion (IsBounded text) (with_angles marks)
  angles_bounded [] each = tt
  angles_bounded (mark ∷ marks) each = (each.0, angles_bounded marks each.1)

  modifiers_bounded : (marks : List Mark) → AllByRecursion (IsBounded text) marks → AllByRecursion (IsBounded text) (with_modifiers marks)
  modifiers_bounded [] each = tt
  modifiers_bounded (mark ∷ marks) each = (each.0, modifiers_bounded marks each.1)

  heads_bounded : (marks : List Mark) → AllByRecursion (IsBounded text) marks → AllByRecursion (IsBounded text) (with_heads marks)
  heads_bounded [] each = tt
  heads_bounded (mark ∷ marks) each = (each.0, heads_bounded marks each.1)

  pub level_bounded : (utf8 : IsUtf8 text) (forest : Forest) → IsForestPlaced text forest → AllByRecursion (IsBounded text) (level text forest)
  unfolding in_list level
  level_bounded utf8 forest placed =
      let marks = own_marks text forest in
      heads_bounded (with_modifiers (with_angles (with_joins None marks))) (modifiers_bounded (with_angles (with_joins None marks)) (angles_bounded (with_joins None marks) (joins_bounded None marks (own_bounded text utf8 forest placed))))

  pub end_bounded : (end : ℕ) (marks : List Mark) → IsCharBoundary text end → AllByRecursion (IsBounded text) marks → IsCharBoundary text (end_of end marks)
  end_bounded end [] ends each = ends
  end_bounded end (mark ∷ marks) ends each = end_bounded mark.end marks each.0.ends each.1
