-- The pieces of an accepted text that begin and end at tokens.
use Rattle.std.proofs.Common.{◌≡◌, ℕ, ◌-◌, inl, inr, List, [], ◌∷◌, ◌++◌, length, take, drop, slice_range, true, false, Some, sym, refl, subst, arith}
use Rattle.std.specs.List.{All}
use Rattle.std.specs.Str.{IsUtf8, IsCharBoundary}
use Rattle.std.proofs.lemmas.Bool.{cases_lt}
use Rattle.std.proofs.lemmas.List.Elements.{All-head, All-tail, All-take, All-drop}
use Rattle.std.proofs.lemmas.Str.{IsUtf8-between, IsUtf8-nil}
use Rattle.std.proofs.Math.Seq.{drop-append_seam, take-append_seam}
use Rattle.swift_lexer.specs.declared.token.Token.{Token}
use Rattle.swift_lexer.specs.Trees.{Tree, leaf, nest, Forest, none, cons, tree_tokens, forest_tokens}
use Rattle.swift_lexer.specs.Characters.{IsOfCharacters}
use Rattle.sample_macros.specs.Use.{is_round, first_round, start_of, end_of, end_of_last}

All-left : {A : Type 0} (P : A → Type 0) (xs ys : List A) → All P (xs ++ ys) → All P xs
All-left P xs ys all = subst (All P) (take-append_seam xs ys) (All-take P (length xs) (xs ++ ys) all)

All-right : {A : Type 0} (P : A → Type 0) (xs ys : List A) → All P (xs ++ ys) → All P ys
All-right P xs ys all = subst (All P) (drop-append_seam xs ys) (All-drop P (length xs) (xs ++ ys) all)

module _ (text : List ℕ) where
  start_boundary : (tree : Tree) → All (IsOfCharacters text) (tree_tokens tree) → IsCharBoundary text (start_of tree)
  start_boundary (leaf token) all = (All-head (IsOfCharacters text) token [] all).start
  start_boundary (nest left inner right) all = (All-head (IsOfCharacters text) left (forest_tokens inner ++ right ∷ []) all).start

  inner_of_characters : (left right : Token) (inner : Forest) → All (IsOfCharacters text) (tree_tokens (nest left inner right)) → All (IsOfCharacters text) (forest_tokens inner)
  inner_of_characters left right inner all =
      All-left (IsOfCharacters text) (forest_tokens inner) (right ∷ []) (All-tail (IsOfCharacters text) left (forest_tokens inner ++ right ∷ []) all)

  end_boundary : (tree : Tree) → All (IsOfCharacters text) (tree_tokens tree) → IsCharBoundary text (end_of tree)
  end_boundary (leaf token) all = (All-head (IsOfCharacters text) token [] all).end
  end_boundary (nest left inner right) all =
      (All-head (IsOfCharacters text) right []
      (All-right (IsOfCharacters text) (forest_tokens inner) (right ∷ [])
      (All-tail (IsOfCharacters text) left (forest_tokens inner ++ right ∷ []) all))).end

  last_boundary : (end : ℕ) (elements : Forest) → IsCharBoundary text end → All (IsOfCharacters text) (forest_tokens elements) → IsCharBoundary text (end_of_last end elements)
  unfolding end_of_last
  last_boundary end none at_end all = at_end
  last_boundary end (cons tree elements) at_end all =
      last_boundary (end_of tree) elements (end_boundary tree (All-left (IsOfCharacters text) (tree_tokens tree) (forest_tokens elements) all))
      (All-right (IsOfCharacters text) (tree_tokens tree) (forest_tokens elements) all)

  pub round_of_characters : (elements : Forest) → All (IsOfCharacters text) (forest_tokens elements) → (inner : Forest) → first_round text elements ≡ Some inner → All (IsOfCharacters text) (forest_tokens inner)
  unfolding first_round
  round_of_characters none all inner is = cc
  round_of_characters (cons (leaf token) elements) all inner is =
      round_of_characters elements (All-right (IsOfCharacters text) (token ∷ []) (forest_tokens elements) all) inner is
  round_of_characters (cons (nest left within right) elements) all inner is =
      elim (is_round text left) as (λ round. is_round text left ≡ round → All (IsOfCharacters text) (forest_tokens inner)) [
        | true ↦ λ round.
            let found : Some within ≡ Some inner = rw round at is in
            let same : within ≡ inner = cc in
            subst (λ row. All (IsOfCharacters text) (forest_tokens row)) same
            (inner_of_characters left right within (All-left (IsOfCharacters text) (tree_tokens (nest left within right)) (forest_tokens elements) all))
        | false ↦ λ other.
            round_of_characters elements (All-right (IsOfCharacters text) (tree_tokens (nest left within right)) (forest_tokens elements) all) inner (rw other at is)
      ] refl

-- what stands between two boundaries of a text is UTF-8 where the text is
range_utf8 : (text : List ℕ) (from to : ℕ) → IsUtf8 text → IsCharBoundary text from → IsCharBoundary text to → IsUtf8 (slice_range text from to)
range_utf8 text from to utf8 begins ends =
    elim (cases_lt to from) [
      | inl below ↦
          let none : to - from ≡ 0 = omega arith in
          subst (λ n. IsUtf8 (take n (drop from text))) (sym none) IsUtf8-nil
      | inr above ↦ IsUtf8-between text from to utf8 above begins ends
    ]

-- the text from the first of some elements to the last
pub inner_utf8 : (text : List ℕ) → IsUtf8 text → (tree : Tree) (elements : Forest) → All (IsOfCharacters text) (forest_tokens (cons tree elements)) → IsUtf8 (slice_range text (start_of tree) (end_of_last (end_of tree) elements))
inner_utf8 text utf8 tree elements all =
    let first = All-left (IsOfCharacters text) (tree_tokens tree) (forest_tokens elements) all in
    range_utf8 text (start_of tree) (end_of_last (end_of tree) elements) utf8 (start_boundary text tree first)
    (last_boundary text (end_of tree) elements (end_boundary text tree first) (All-right (IsOfCharacters text) (tree_tokens tree) (forest_tokens elements) all))
