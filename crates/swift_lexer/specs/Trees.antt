-- Bracket groups as plain data: this project's own.
use Rattle.std.specs.Prelude.{◌≡◌, ◌≢◌, ℕ, suc, max, List, [], ◌∷◌, ◌++◌, map, slice_index, Bool, true}
use Rattle.swift_lexer.specs.Bytes.{is_bracket_pair}
use Rattle.swift_lexer.specs.declared.token.Class.TheVariants.{LeftBracket, RightBracket}
use Rattle.swift_lexer.specs.declared.token.Token.{Token}
use Rattle.swift_lexer.specs.declared.element.Element.{Element}
use Rattle.swift_lexer.specs.declared.element.Element.TheOpen.{Element-F, Group-F, Leaf, Nest}
use Rattle.swift_lexer.specs.declared.element.Element.TheFolds.{fold-Element}

mutual
  pub data Tree : Type 0 where
    leaf : Token → Tree
    nest : Token → Forest → Token → Tree

  pub data Forest : Type 0 where
    none : Forest
    cons : Tree → Forest → Forest

-- the tokens of a tree and of a forest, in the order of the text
abbrev mutual
  pub tree_tokens : Tree → List Token
  tree_tokens (leaf token) = token ∷ []
  tree_tokens (nest left inner right) = left ∷ (forest_tokens inner ++ right ∷ [])

  pub forest_tokens : Forest → List Token
  forest_tokens none = []
  forest_tokens (cons tree forest) = tree_tokens tree ++ forest_tokens forest

-- how deep brackets are nested
abbrev mutual
  pub tree_depth : Tree → ℕ
  tree_depth (leaf token) = 0
  tree_depth (nest left inner right) = suc (forest_depth inner)

  pub forest_depth : Forest → ℕ
  forest_depth none = 0
  forest_depth (cons tree forest) = max (tree_depth tree) (forest_depth forest)

-- the right bracket is of the kind of the left one
unfoldable pub closes : List ℕ → Token → Token → Bool
closes text left right = is_bracket_pair (slice_index text left.start) (slice_index text right.start)

-- each bracket stands around a group, with one of its kind
abbrev mutual
  pub IsMatched : List ℕ → Tree → Type 0
  IsMatched text (leaf token) = (token.class ≢ LeftBracket) × (token.class ≢ RightBracket)
  IsMatched text (nest left inner right) = (left.class ≡ LeftBracket) × (right.class ≡ RightBracket) × (closes text left right ≡ true) × AreMatched text inner

  pub AreMatched : List ℕ → Forest → Type 0
  AreMatched text none = Unit {0}
  AreMatched text (cons tree forest) = IsMatched text tree × AreMatched text forest

-- the trees in a row
abbrev pub forest_from : List Tree → Forest
forest_from [] = none
forest_from (tree ∷ trees) = cons tree (forest_from trees)

abbrev pub tree_step : Element-F Tree Tree → Tree
tree_step (Leaf token) = leaf token
tree_step (Nest group) = group.value

abbrev pub group_step : Group-F Tree Tree → Tree
group_step group = nest group.left (forest_from group.inner.items) group.right

-- what an element stands for
unfoldable pub tree_of : Element → Tree
tree_of = fold-Element Tree Tree tree_step group_step

-- what elements in a row stand for
abbrev pub forest_of : List Element → Forest
forest_of elements = forest_from (map tree_of elements)
