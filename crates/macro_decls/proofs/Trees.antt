-- Elements in a row, as lists of trees.
use Rattle.std.proofs.Common.{◌≡◌, ◌≤◌, ℕ, List, Box, [], ◌∷◌, ◌++◌, length, drop, map, append_assoc, refl, sym, ap, ◌∙◌}
use Rattle.std.specs.List.{flat_map}
use Rattle.std.specs.declared.alloc.Global.{Global}
use Rattle.std.proofs.lemmas.List.{append-nil, drop_all}
use Rattle.std.proofs.lemmas.List.Concat.{flat_map-append}
use Rattle.swift_lexer.specs.declared.token.Token.{Token}
use Rattle.swift_lexer.specs.declared.element.Element.{Element}
use Rattle.swift_lexer.specs.declared.element.Group.{Group}
use Rattle.swift_lexer.specs.declared.element.Element.TheVariants.{Leaf, Nest}
use Rattle.swift_lexer.specs.Tiles.{bytes_of}
use Rattle.swift_lexer.specs.Trees.{Tree, tree_of, tree_tokens, forest_tokens, forest_from, forest_of}
use Rattle.swift_lexer.proofs.Trees.{tree_of-leaf, tree_of-nest}
use Rattle.macro_decls.specs.Elements.{trees_in}

pub trees_in-forest_from : (trees : List Tree) → trees_in (forest_from trees) ≡ trees
trees_in-forest_from [] = refl
trees_in-forest_from (tree ∷ trees) = ap (λ more. tree ∷ more) (trees_in-forest_from trees)

pub trees_in-forest_of : (row : List Element) → trees_in (forest_of row) ≡ map tree_of row
trees_in-forest_of row = trees_in-forest_from (map tree_of row)

-- the texts of a group's tokens, by those of its parts
module _ (text : List ℕ) where
  pub leaf-text : (element : Element) (token : Token) → element ≡ Leaf token → flat_map (bytes_of text) (tree_tokens (tree_of element)) ≡ bytes_of text token
  leaf-text element token is =
      ap (λ (e : Element). flat_map (bytes_of text) (tree_tokens (tree_of e))) is ∙ ap (λ (t : Tree). flat_map (bytes_of text) (tree_tokens t)) (tree_of-leaf token)
      ∙ append-nil (bytes_of text token)

  pub nest-text : (element : Element) (group : Box Group Global) → element ≡ Nest group
      → flat_map (bytes_of text) (tree_tokens (tree_of element)) ≡ bytes_of text group.value.left ++ (flat_map (bytes_of text) (forest_tokens (forest_of group.value.inner.items)) ++ bytes_of text group.value.right)
  nest-text element group is =
      ap (λ (e : Element). flat_map (bytes_of text) (tree_tokens (tree_of e))) is ∙ ap (λ (t : Tree). flat_map (bytes_of text) (tree_tokens t)) (tree_of-nest group)
      ∙ ap (λ (l : List ℕ). bytes_of text group.value.left ++ l)
      (flat_map-append (bytes_of text) (forest_tokens (forest_of group.value.inner.items)) (group.value.right ∷ [])
      ∙ ap (λ (l : List ℕ). flat_map (bytes_of text) (forest_tokens (forest_of group.value.inner.items)) ++ l) (append-nil (bytes_of text group.value.right)))

  -- a group is put behind what stands before it: its left bracket, its parts, of which none is left, and its right bracket
  pub nest-put : (element : Element) (group : Box Group Global) → element ≡ Nest group
      → (left : Token) → left ≡ group.value.left → (parts : List Element) → parts ≡ group.value.inner.items → (right : Token) → right ≡ group.value.right
      → (old opened filled : List ℕ) (i : ℕ) → opened ≡ old ++ bytes_of text left → length parts ≤ i
      → filled ++ flat_map (bytes_of text) (forest_tokens (forest_of (drop i parts))) ≡ opened ++ flat_map (bytes_of text) (forest_tokens (forest_of parts))
      → filled ++ bytes_of text right ≡ old ++ flat_map (bytes_of text) (tree_tokens (tree_of element))
  nest-put element group is left same_left parts same right same_right old opened filled i begun past so_far =
      let text_of : List Element → List ℕ = λ row. flat_map (bytes_of text) (forest_tokens (forest_of row)) in
      let all : filled ≡ opened ++ text_of parts = sym (append-nil filled) ∙ sym (ap (λ (l : List Element). filled ++ text_of l) (drop_all i parts past)) ∙ so_far in
      ap (λ (l : List ℕ). l ++ bytes_of text right) (all ∙ ap (λ (l : List ℕ). l ++ text_of parts) begun)
      ∙ append_assoc (old ++ bytes_of text left) (text_of parts) (bytes_of text right)
      ∙ append_assoc old (bytes_of text left) (text_of parts ++ bytes_of text right)
      ∙ ap (λ (t : Token). old ++ (bytes_of text t ++ (text_of parts ++ bytes_of text right))) same_left
      ∙ ap (λ (l : List Element). old ++ (bytes_of text group.value.left ++ (text_of l ++ bytes_of text right))) same
      ∙ ap (λ (t : Token). old ++ (bytes_of text group.value.left ++ (text_of group.value.inner.items ++ bytes_of text t))) same_right
      ∙ ap (λ (l : List ℕ). old ++ l) (sym (nest-text element group is))
