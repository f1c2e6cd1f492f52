-- How far grouping reaches: a token at a time, and at the end.
use Rattle.std.proofs.Common.{◌≡◌, ℕ, suc, ◌+◌, ◌-◌, ◌<◌, ◌≤◌, List, [], ◌∷◌, ◌++◌, length, sym, refl, ap, arith, ◌∙◌, append_assoc, append-nil}
use Rattle.std.proofs.lemmas.List.{length-append}
use Rattle.swift_lexer.specs.declared.token.Class.TheVariants.{LeftBracket}
use Rattle.swift_lexer.specs.declared.token.Token.{Token}
use Rattle.swift_lexer.specs.declared.element.TheConstants.{DEEPEST}
use Rattle.swift_lexer.specs.Trees.{Tree, nest, Forest, none, tree_tokens, forest_tokens, tree_depth, forest_depth, IsMatched, AreMatched, forest_from}
use Rattle.swift_lexer.specs.Groups.{Level, open_tokens, AreOpen, Reaches, grouped}
use Rattle.swift_lexer.specs.Laws.{GroupsHoldTheTokens}

-- one tree more at the end of a row
tokens-push : (trees : List Tree) (tree : Tree) → forest_tokens (forest_from (trees ++ tree ∷ [])) ≡ forest_tokens (forest_from trees) ++ tree_tokens tree
tokens-push [] tree = append-nil (tree_tokens tree)
tokens-push (first ∷ trees) tree = ap (λ l. tree_tokens first ++ l) (tokens-push trees tree) ∙ sym (append_assoc (tree_tokens first) (forest_tokens (forest_from trees)) (tree_tokens tree))

matched-push : (text : List ℕ) (trees : List Tree) (tree : Tree) → AreMatched text (forest_from trees) → IsMatched text tree → AreMatched text (forest_from (trees ++ tree ∷ []))
matched-push text [] tree matched one = (one, tt)
matched-push text (first ∷ trees) tree matched one = (matched.0, matched-push text trees tree matched.1 one)

depth-push : (trees : List Tree) (tree : Tree) (most : ℕ) → forest_depth (forest_from trees) ≤ most → tree_depth tree ≤ most → forest_depth (forest_from (trees ++ tree ∷ [])) ≤ most
depth-push [] tree most low one = omega arith
depth-push (first ∷ trees) tree most low one = omega (arith, depth-push trees tree most (omega arith) one)

-- one level more
open_tokens-push : (levels : List Level) (level : Level) → open_tokens (levels ++ level ∷ []) ≡ open_tokens levels ++ (forest_tokens level.before ++ level.left ∷ [])
open_tokens-push [] level = refl
open_tokens-push (first ∷ levels) level =
    ap (λ l. forest_tokens first.before ++ first.left ∷ l) (open_tokens-push levels level) ∙ sym (append_assoc (forest_tokens first.before) (first.left ∷ open_tokens levels) (forest_tokens level.before ++ level.left ∷ []))

open-push : (text : List ℕ) (depth : ℕ) (levels : List Level) (level : Level) → AreOpen text depth levels → AreMatched text level.before → depth + length levels + forest_depth level.before ≤ DEEPEST → level.left.class ≡ LeftBracket → AreOpen text depth (levels ++ level ∷ [])
open-push text depth [] level opened matched low left = (matched, omega arith, left, tt)
open-push text depth (first ∷ levels) level opened matched low left = (opened.0, opened.1, opened.2, open-push text (suc depth) levels level opened.3 matched (omega arith) left)

-- what is known of the innermost level, and of those around it
record Innermost (text : List ℕ) (depth : ℕ) (levels : List Level) (level : Level) : Type 0 where
  around : AreOpen text depth levels
  matched : AreMatched text level.before
  low : depth + length levels + forest_depth level.before ≤ DEEPEST
  left : level.left.class ≡ LeftBracket

open-pop : (text : List ℕ) (depth : ℕ) (levels : List Level) (level : Level) → AreOpen text depth (levels ++ level ∷ []) → Innermost text depth levels level
open-pop text depth [] level opened = record { around = tt; matched = opened.0; low = omega (arith, opened.1); left = opened.2 }
open-pop text depth (first ∷ levels) level opened =
    let inner = open-pop text (suc depth) levels level opened.3 in
    record { around = (opened.0, opened.1, opened.2, inner.around); matched = inner.matched; low = omega (arith, inner.low); left = inner.left }

-- a whole tree joins the groups on the innermost level
pub Reaches-push : (text : List ℕ) (tokens : List Token) (levels : List Level) (trees : List Tree) (tree : Tree) (rest : List Token) → Reaches text tokens levels (forest_from trees) (tree_tokens tree ++ rest) → IsMatched text tree → length levels + tree_depth tree ≤ DEEPEST → Reaches text tokens levels (forest_from (trees ++ tree ∷ [])) rest
Reaches-push text tokens levels trees tree rest reached one low = record {
  split = reached.split ∙ ap (λ l. open_tokens levels ++ l) (sym (append_assoc (forest_tokens (forest_from trees)) (tree_tokens tree) rest) ∙ ap (λ l. l ++ rest) (sym (tokens-push trees tree)));
  open_levels = reached.open_levels;
  matched = matched-push text trees tree reached.matched one;
  depth =
      let here : forest_depth (forest_from trees) ≤ DEEPEST - length levels = omega (arith, reached.depth) in
      let further : tree_depth tree ≤ DEEPEST - length levels = omega arith in
      omega (arith, reached.depth, depth-push trees tree (DEEPEST - length levels) here further);
}

-- a left bracket opens a level
pub Reaches-open : (text : List ℕ) (tokens : List Token) (levels : List Level) (here : Forest) (left : Token) (rest : List Token) → Reaches text tokens levels here (left ∷ rest) → left.class ≡ LeftBracket → length levels < DEEPEST → Reaches text tokens (levels ++ record { before = here; left = left } ∷ []) none rest
Reaches-open text tokens levels here left rest reached is_left low =
    let level : Level = record { before = here; left = left } in
    record {
      split = reached.split ∙ ap (λ l. open_tokens levels ++ l) (sym (append_assoc (forest_tokens here) (left ∷ []) rest)) ∙ sym (append_assoc (open_tokens levels) (forest_tokens here ++ left ∷ []) rest) ∙ ap (λ l. l ++ rest) (sym (open_tokens-push levels level));
      open_levels = open-push text 0 levels level reached.open_levels reached.matched (omega (arith, reached.depth)) is_left;
      matched = tt;
      depth = omega (arith, length-append levels (level ∷ []));
    }

-- a right bracket of the same kind closes it: the group is a tree of the level around
pub Reaches-close : (text : List ℕ) (tokens : List Token) (levels : List Level) (level : Level) (here : Forest) (right : Token) (rest : List Token) → Reaches text tokens (levels ++ level ∷ []) here (right ∷ rest) → Reaches text tokens levels level.before (tree_tokens (nest level.left here right) ++ rest)
Reaches-close text tokens levels level here right rest reached =
    let inner = open-pop text 0 levels level reached.open_levels in
    record {
      split = reached.split ∙ ap (λ l. l ++ (forest_tokens here ++ right ∷ rest)) (open_tokens-push levels level) ∙ simp append_assoc;
      open_levels = inner.around;
      matched = inner.matched;
      depth = omega (arith, inner.low);
    }

-- the innermost open bracket is a left one, and a group in its place lies low enough
pub low_innermost : (text : List ℕ) (tokens : List Token) (levels : List Level) (level : Level) (here : Forest) (rest : List Token) → Reaches text tokens (levels ++ level ∷ []) here rest → (level.left.class ≡ LeftBracket) × (length levels + suc (forest_depth here) ≤ DEEPEST)
low_innermost text tokens levels level here rest reached =
    let inner = open-pop text 0 levels level reached.open_levels in
    (inner.left, omega (arith, reached.depth, length-append levels (level ∷ [])))

pub groups_hold_the_tokens : GroupsHoldTheTokens
groups_hold_the_tokens text tokens forest (grouped _ same matched low) = (same, matched, low)
