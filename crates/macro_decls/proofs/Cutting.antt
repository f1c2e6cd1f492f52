-- What stands before and behind the first comma of a row of elements.
use Rattle.std.proofs.Common.{◌≡◌, ℕ, suc, ◌+◌, ◌<◌, ◌≤◌, ◌==◌, ◌&&◌, Bool, true, false, cond, List, [], ◌∷◌, ◌++◌, length, map, append_assoc, take, drop, refl, sym, ap, ◌∙◌, arith, Bor}
use Rattle.std.proofs.lemmas.List.{drop-map, length-map, map_push, take-map, take_all}
use Rattle.swift_lexer.specs.declared.element.Element.{Element}
use Rattle.swift_lexer.specs.Trees.{Tree, tree_of}
use Rattle.macro_decls.specs.Arguments.{angle_count, before_comma, before_first, cut, is_comma}

module _ (text : List ℕ) where
  whole-by : (b : Bool) (n : ℕ) (tree : Tree) (trees : List Tree) (more anew : List (List Tree)) → length (tree ∷ trees) ≤ cond b 0 (suc n)
      → (length trees ≤ n → more ≡ trees ∷ []) → cond b ([] ∷ anew) (before_first tree more) ≡ (tree ∷ trees) ∷ []
  whole-by true n tree trees more anew all rest = absurd (omega (arith, all))
  whole-by false n tree trees more anew all rest = ap (before_first tree) (rest (omega (arith, all)))

  -- without a comma all is one piece
  pub cut-whole : (opened closed : ℕ) (trees : List Tree) → length trees ≤ before_comma text opened closed trees → cut text opened closed trees ≡ trees ∷ []
  cut-whole opened closed [] all = refl
  cut-whole opened closed (tree ∷ trees) all =
      let o : ℕ = opened + angle_count text 60 tree in
      let c : ℕ = closed + angle_count text 62 tree in
      whole-by (is_comma text tree && (opened == closed)) (before_comma text o c trees) tree trees (cut text o c trees) (cut text 0 0 trees) all (cut-whole o c trees)

  first-by : (b : Bool) (n : ℕ) (tree : Tree) (trees : List Tree) (more : List (List Tree)) → cond b 0 (suc n) < length (tree ∷ trees)
      → (n < length trees → more ≡ take n trees ∷ cut text 0 0 (drop (n + 1) trees))
      → cond b ([] ∷ cut text 0 0 trees) (before_first tree more) ≡ take (cond b 0 (suc n)) (tree ∷ trees) ∷ cut text 0 0 (drop (cond b 0 (suc n) + 1) (tree ∷ trees))
  first-by true n tree trees more some rest = refl
  first-by false n tree trees more some rest =
      let e : suc (n + 1) ≡ suc n + 1 = omega arith in
      ap (before_first tree) (rest (omega (arith, some))) ∙ ap (λ k. (tree ∷ take n trees) ∷ cut text 0 0 (drop k (tree ∷ trees))) e

  -- what stands before the first comma is a piece, and what stands behind it is cut anew
  pub cut-first : (opened closed : ℕ) (trees : List Tree) → before_comma text opened closed trees < length trees
      → cut text opened closed trees ≡ take (before_comma text opened closed trees) trees ∷ cut text 0 0 (drop (before_comma text opened closed trees + 1) trees)
  cut-first opened closed [] some = absurd (omega (arith, some))
  cut-first opened closed (tree ∷ trees) some =
      let o : ℕ = opened + angle_count text 60 tree in
      let c : ℕ = closed + angle_count text 62 tree in
      first-by (is_comma text tree && (opened == closed)) (before_comma text o c trees) tree trees (cut text o c trees) some (cut-first o c trees)

-- the pieces of the code as lists of trees
abbrev pub seen : Bor (List Element) → List Tree
seen piece = map tree_of piece.now

module _ (text : List ℕ) (pieces pushed : List (Bor (List Element))) (piece : Bor (List Element)) (rest : List Element) (n : ℕ)
    (put : pushed ≡ pieces ++ piece ∷ []) (front : piece.now ≡ take n rest) (is : n ≡ before_comma text 0 0 (map tree_of rest)) where
  len : length (map tree_of rest) ≡ length rest
  len = length-map rest tree_of

  before : List (List Tree)
  before = map seen pieces

  put_seen : map seen pushed ≡ map seen pieces ++ map tree_of (take n rest) ∷ []
  put_seen = ap (map seen) put ∙ map_push seen pieces piece ∙ ap (λ (l : List Element). map seen pieces ++ map tree_of l ∷ []) front

  -- the last piece is put behind the others
  pub cut-last : length rest ≤ n → map seen pushed ≡ map seen pieces ++ cut text 0 0 (map tree_of rest)
  cut-last all =
      put_seen ∙ ap (λ (l : List Element). map seen pieces ++ map tree_of l ∷ []) (take_all n rest all)
      ∙ ap (λ (l : List (List Tree)). map seen pieces ++ l) (sym (cut-whole text 0 0 (map tree_of rest) (omega (arith, all, len, is))))

  first : n < length rest → cut text 0 0 (map tree_of rest) ≡ map tree_of (take n rest) ∷ cut text 0 0 (map tree_of (drop (n + 1) rest))
  first some =
      cut-first text 0 0 (map tree_of rest) (omega (arith, some, len, is))
      ∙ ap (λ k. take k (map tree_of rest) ∷ cut text 0 0 (drop (k + 1) (map tree_of rest))) (sym is)
      ∙ ap (λ (l : List Tree). l ∷ cut text 0 0 (drop (n + 1) (map tree_of rest))) (take-map tree_of n rest)
      ∙ ap (λ (l : List Tree). map tree_of (take n rest) ∷ cut text 0 0 l) (drop-map tree_of (n + 1) rest)

  -- or one more piece, and the others are those of what stands behind it
  pub cut-more : n < length rest → (left : List Element) → left ≡ drop (n + 1) rest → map seen pushed ++ cut text 0 0 (map tree_of left) ≡ map seen pieces ++ cut text 0 0 (map tree_of rest)
  cut-more some left behind =
      ap (λ (l : List (List Tree)). l ++ cut text 0 0 (map tree_of left)) put_seen
      ∙ append_assoc (map seen pieces) (map tree_of (take n rest) ∷ []) (cut text 0 0 (map tree_of left))
      ∙ ap (λ (l : List Element). map seen pieces ++ (map tree_of (take n rest) ∷ cut text 0 0 (map tree_of l))) behind
      ∙ ap (λ (l : List (List Tree)). map seen pieces ++ l) (sym (first some))
