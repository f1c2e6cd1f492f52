-- Tokens and elements that lie in their text between characters.
use Rattle.std.proofs.Common.{ℕ, List, [], ◌∷◌, ◌++◌}
use Rattle.std.specs.List.{AllByRecursion}
use Rattle.swift_lexer.specs.declared.token.Token.{Token}
use Rattle.swift_lexer.specs.Characters.{IsOfCharacters}
use Rattle.swift_lexer.specs.Tiles.{IsTile}
use Rattle.swift_lexer.specs.Trees.{Tree, leaf, nest, Forest, none, cons, tree_tokens, forest_tokens}

module _ {A : Type 0} (P : A → Type 0) where
  pub each_append : (xs ys : List A) → AllByRecursion P xs → AllByRecursion P ys → AllByRecursion P (xs ++ ys)
  each_append [] ys each more = more
  each_append (x ∷ xs) ys each more = (each.0, each_append xs ys each.1 more)

  pub each_first : (xs ys : List A) → AllByRecursion P (xs ++ ys) → AllByRecursion P xs
  each_first [] ys each = tt
  each_first (x ∷ xs) ys each = (each.0, each_first xs ys each.1)

  pub each_second : (xs ys : List A) → AllByRecursion P (xs ++ ys) → AllByRecursion P ys
  each_second [] ys each = each
  each_second (x ∷ xs) ys each = each_second xs ys each.1

-- the token lies in the text, and begins and ends between characters
abbrev pub IsPlaced : List ℕ → Token → Type 0
IsPlaced text token = IsTile text token × IsOfCharacters text token

abbrev mutual
  pub IsTreePlaced : List ℕ → Tree → Type 0
  IsTreePlaced text (leaf token) = IsPlaced text token
  IsTreePlaced text (nest left inner right) = IsPlaced text left × IsForestPlaced text inner × IsPlaced text right

  pub IsForestPlaced : List ℕ → Forest → Type 0
  IsForestPlaced text none = Unit {0}
  IsForestPlaced text (cons tree forest) = IsTreePlaced text tree × IsForestPlaced text forest

mutual
  tree_placed : (text : List ℕ) (tree : Tree) → AllByRecursion (IsPlaced text) (tree_tokens tree) → IsTreePlaced text tree
  tree_placed text (leaf token) each = each.0
  tree_placed text (nest left inner right) each =
      let behind = each_second (IsPlaced text) (forest_tokens inner) (right ∷ []) each.1 in
      (each.0, forest_placed text inner (each_first (IsPlaced text) (forest_tokens inner) (right ∷ []) each.1), behind.0)

  pub forest_placed : (text : List ℕ) (forest : Forest) → AllByRecursion (IsPlaced text) (forest_tokens forest) → IsForestPlaced text forest
  forest_placed text none each = tt
  forest_placed text (cons tree forest) each =
      (tree_placed text tree (each_first (IsPlaced text) (tree_tokens tree) (forest_tokens forest) each), forest_placed text forest (each_second (IsPlaced text) (tree_tokens tree) (forest_tokens forest) each))
