-- The elements of a list, one behind the other.
use Rattle.std.proofs.Common.{◌≡◌, refl, sym, subst, arith, ℕ, zero, suc, ◌<◌, ◌≤◌, List, [], ◌∷◌, ◌++◌, length, take, drop, Option, Some, None, true, false, if◌then◌else◌, ap}
use Rattle.std.specs.List.{All}
use Rattle.std.proofs.lemmas.List.Elements.{All-head, All-tail}
use Rattle.swift_lexer.specs.declared.token.Token.{Token}
use Rattle.swift_lexer.specs.Tiles.{IsTile, Chained, last_end, TokensTile}
use Rattle.swift_lexer.specs.Trees.{Tree, leaf, nest, Forest, none, cons, tree_tokens, forest_tokens}
use Rattle.element_marks.specs.declared.mark.Mark.{Mark}
use Rattle.element_marks.specs.Sorts.{is_semicolon, is_quoted, is_use, is_braces}
use Rattle.element_marks.specs.Marks.{mark_of, mark_between}
use Rattle.element_marks.specs.Spans.{span_of, between, name_of, end_of, whole}
use Rattle.element_marks.specs.Heads.{with_joins, with_angles, with_modifiers, with_heads, in_list}
use Rattle.element_marks.specs.Levels.{own_marks, level}
use Rattle.decl_parser.specs.Cut.{after}
use Rattle.decl_parser.specs.Nesting.{Between, MayLie}
use Rattle.decl_parser.proofs.ElementBytes.{MarkFits, element_fits}

abbrev pub IsFit : Mark → Type 0
IsFit mark = MarkFits mark.start mark.end (is_quoted mark) (is_use mark) mark.ends_angle (is_braces mark) mark.begins_angle mark.opens mark.closes

-- the elements lie between the two places, each behind the one before
abbrev pub InOrder : ℕ → List Mark → ℕ → Type 0
InOrder from [] to = from ≤ to
InOrder from (mark ∷ marks) to = (from ≤ mark.start) × IsFit mark × InOrder mark.end marks to

pub bounds : (from to : ℕ) (marks : List Mark) → InOrder from marks to → from ≤ to
bounds from to [] lies = lies
bounds from to (mark ∷ marks) lies = omega (arith, lies.0, lies.1.some, bounds mark.end to marks lies.2)

pub earlier : (before from to : ℕ) (marks : List Mark) → before ≤ from → InOrder from marks to → InOrder before marks to
earlier before from to [] less lies = omega arith
earlier before from to (mark ∷ marks) less lies = (omega (arith, lies.0), lies.1, lies.2)

pub later : (from to behind : ℕ) (marks : List Mark) → to ≤ behind → InOrder from marks to → InOrder from marks behind
later from to behind [] less lies = omega arith
later from to behind (mark ∷ marks) less lies = (lies.0, lies.1, later mark.end to behind marks less lies.2)

pub lies_take : (n from to : ℕ) (marks : List Mark) → InOrder from marks to → InOrder from (take n marks) to
lies_take zero from to marks lies = bounds from to marks lies
lies_take (suc n) from to [] lies = lies
lies_take (suc n) from to (mark ∷ marks) lies = (lies.0, lies.1, lies_take n mark.end to marks lies.2)

pub lies_drop : (n from to : ℕ) (marks : List Mark) → InOrder from marks to → InOrder from (drop n marks) to
lies_drop zero from to marks lies = lies
lies_drop (suc n) from to [] lies = lies
lies_drop (suc n) from to (mark ∷ marks) lies = earlier from mark.end to (drop n marks) (omega (arith, lies.0, lies.1.some)) (lies_drop n mark.end to marks lies.2)

-- up to the end of the last
pub lies_closely : (from to : ℕ) (marks : List Mark) → InOrder from marks to → InOrder from marks (end_of from marks)
lies_closely from to [] lies = omega arith
lies_closely from to (mark ∷ marks) lies = (lies.0, lies.1, lies_closely mark.end to marks lies.2)

-- behind the first few
pub lies_behind : (n from to : ℕ) (marks : List Mark) → InOrder from marks to → InOrder (end_of from (take n marks)) (drop n marks) to
lies_behind zero from to marks lies = lies
lies_behind (suc n) from to [] lies = lies
lies_behind (suc n) from to (mark ∷ marks) lies = lies_behind n mark.end to marks lies.2

-- the elements without a `;` that stands first
abbrev pub past_semicolon : List Mark → List Mark
past_semicolon [] = []
past_semicolon (mark ∷ marks) = if is_semicolon mark then marks else mark ∷ marks

abbrev pub Passed : ℕ → ℕ → List Mark → ℕ → Type 0
Passed from behind marks to = (from ≤ behind) × (behind ≤ to) × InOrder behind marks to

pub lies_past : (from to : ℕ) (marks : List Mark) → InOrder from marks to → Passed from (after from marks) (past_semicolon marks) to
lies_past from to [] lies = (omega arith, lies, lies)
lies_past from to (mark ∷ marks) lies =
    elim (is_semicolon mark) as (λ b. Passed from (if b then mark.end else from) (if b then marks else mark ∷ marks) to) [
      | true ↦ (omega (arith, lies.0, lies.1.some), bounds mark.end to marks lies.2, lies.2)
      | false ↦ (omega arith, bounds from to (mark ∷ marks) lies, lies)
    ]

-- what the elements of a list know of their neighbours doesn't move them
lies_joins : (previous : Option Mark) (from to : ℕ) (marks : List Mark) → InOrder from marks to → InOrder from (with_joins previous marks) to
lies_joins previous from to [] lies = lies
lies_joins previous from to (mark ∷ marks) lies = (lies.0, lies.1, lies_joins (Some mark) mark.end to marks lies.2)

lies_angles : (from to : ℕ) (marks : List Mark) → InOrder from marks to → InOrder from (with_angles marks) to
lies_angles from to [] lies = lies
lies_angles from to (mark ∷ marks) lies = (lies.0, lies.1, lies_angles mark.end to marks lies.2)

lies_modifiers : (from to : ℕ) (marks : List Mark) → InOrder from marks to → InOrder from (with_modifiers marks) to
lies_modifiers from to [] lies = lies
lies_modifiers from to (mark ∷ marks) lies = (lies.0, lies.1, lies_modifiers mark.end to marks lies.2)

lies_heads : (from to : ℕ) (marks : List Mark) → InOrder from marks to → InOrder from (with_heads marks) to
lies_heads from to [] lies = lies
lies_heads from to (mark ∷ marks) lies = (lies.0, lies.1, lies_heads mark.end to marks lies.2)

lies_in_list : (from to : ℕ) (marks : List Mark) → InOrder from marks to → InOrder from (in_list marks) to
unfolding in_list
lies_in_list from to marks lies =
    lies_heads from to (with_modifiers (with_angles (with_joins None marks))) (lies_modifiers from to (with_angles (with_joins None marks)) (lies_angles from to (with_joins None marks) (lies_joins None from to marks lies)))

-- the elements beside what stands in each
abbrev pub Beside : {A : Type 0} → (ℕ → A → ℕ → Type 0) → List Mark → List A → Type 0
Beside R [] others = Unit {0}
Beside R (mark ∷ marks) [] = Unit {0}
Beside R (mark ∷ marks) (other ∷ others) = R mark.start other mark.end × Beside R marks others

module _ {A : Type 0} (R : ℕ → A → ℕ → Type 0) where
  pub beside_none : (marks : List Mark) → Beside R marks []
  beside_none [] = tt
  beside_none (mark ∷ marks) = tt

  pub beside_take : (n : ℕ) (marks : List Mark) (others : List A) → Beside R marks others → Beside R (take n marks) (take n others)
  beside_take zero marks others holds = tt
  beside_take (suc n) [] others holds = tt
  beside_take (suc n) (mark ∷ marks) [] holds = tt
  beside_take (suc n) (mark ∷ marks) (other ∷ others) holds = (holds.0, beside_take n marks others holds.1)

  pub beside_drop : (n : ℕ) (marks : List Mark) (others : List A) → Beside R marks others → Beside R (drop n marks) (drop n others)
  beside_drop zero marks others holds = holds
  beside_drop (suc n) [] others holds = tt
  beside_drop (suc n) (mark ∷ marks) [] holds = beside_none (drop n marks)
  beside_drop (suc n) (mark ∷ marks) (other ∷ others) holds = beside_drop n marks others holds.1

  beside_joins : (previous : Option Mark) (marks : List Mark) (others : List A) → Beside R marks others → Beside R (with_joins previous marks) others
  beside_joins previous [] others holds = tt
  beside_joins previous (mark ∷ marks) [] holds = tt
  beside_joins previous (mark ∷ marks) (other ∷ others) holds = (holds.0, beside_joins (Some mark) marks others holds.1)

  beside_angles : (marks : List Mark) (others : List A) → Beside R marks others → Beside R (with_angles marks) others
  beside_angles [] others holds = tt
  beside_angles (mark ∷ marks) [] holds = tt
  beside_angles (mark ∷ marks) (other ∷ others) holds = (holds.0, beside_angles marks others holds.1)

  beside_modifiers : (marks : List Mark) (others : List A) → Beside R marks others → Beside R (with_modifiers marks) others
  beside_modifiers [] others holds = tt
  beside_modifiers (mark ∷ marks) [] holds = tt
  beside_modifiers (mark ∷ marks) (other ∷ others) holds = (holds.0, beside_modifiers marks others holds.1)

  beside_heads : (marks : List Mark) (others : List A) → Beside R marks others → Beside R (with_heads marks) others
  beside_heads [] others holds = tt
  beside_heads (mark ∷ marks) [] holds = tt
  beside_heads (mark ∷ marks) (other ∷ others) holds = (holds.0, beside_heads marks others holds.1)

  pub beside_level : (text : List ℕ) (forest : Forest) (others : List A) → Beside R (own_marks text forest) others → Beside R (level text forest) others
  unfolding in_list level
  beside_level text forest others holds =
      let marks = own_marks text forest in
      beside_heads (with_modifiers (with_angles (with_joins None marks))) others (beside_modifiers (with_angles (with_joins None marks)) others (beside_angles (with_joins None marks) others (beside_joins None marks others holds)))

-- tokens, each behind the one before
abbrev TokensInOrder : List ℕ → ℕ → List Token → ℕ → Type 0
TokensInOrder text from [] to = from ≤ to
TokensInOrder text from (token ∷ tokens) to = (from ≤ token.start) × IsTile text token × TokensInOrder text token.end tokens to

tokens_later : (text : List ℕ) (from to behind : ℕ) (tokens : List Token) → to ≤ behind → TokensInOrder text from tokens to → TokensInOrder text from tokens behind
tokens_later text from to behind [] less lies = omega arith
tokens_later text from to behind (token ∷ tokens) less lies = (lies.0, lies.1, tokens_later text token.end to behind tokens less lies.2)

tokens_split : (text : List ℕ) (from to : ℕ) (tokens others : List Token) → TokensInOrder text from (tokens ++ others) to → TokensInOrder text from tokens (last_end from tokens) × TokensInOrder text (last_end from tokens) others to
tokens_split text from to [] others lies = (omega arith, lies)
tokens_split text from to (token ∷ tokens) others lies = let rest = tokens_split text token.end to tokens others lies.2 in ((lies.0, lies.1, rest.0), rest.1)

tokens_in_order : (text : List ℕ) (at : ℕ) (tokens : List Token) → at ≤ length text → All (IsTile text) tokens → Chained at tokens → TokensInOrder text at tokens (length text)
tokens_in_order text at [] within each chained = within
tokens_in_order text at (token ∷ tokens) within each chained =
    let tile = All-head (IsTile text) token tokens each in
    (omega (arith, tile.trivia, chained.0), tile, tokens_in_order text token.end tokens tile.within (All-tail (IsTile text) token tokens each) chained.1)

-- the places of a tree
abbrev pub tree_start : Tree → ℕ
tree_start (leaf token) = token.start
tree_start (nest left inner right) = left.start

abbrev pub tree_end : Tree → ℕ
tree_end (leaf token) = token.end
tree_end (nest left inner right) = right.end

-- trees, each behind the one before; those inside a group between its brackets
abbrev mutual
  pub TreeInOrder : List ℕ → ℕ → Tree → Type 0
  TreeInOrder text from (leaf token) = (from ≤ token.start) × IsTile text token
  TreeInOrder text from (nest left inner right) = (from ≤ left.start) × IsTile text left × ForestInOrder text left.end inner right.start × IsTile text right

  pub ForestInOrder : List ℕ → ℕ → Forest → ℕ → Type 0
  ForestInOrder text from none to = from ≤ to
  ForestInOrder text from (cons tree forest) to = TreeInOrder text from tree × ForestInOrder text (tree_end tree) forest to

last_end-push : (at : ℕ) (tokens : List Token) (token : Token) → last_end at (tokens ++ token ∷ []) ≡ token.end
last_end-push at [] token = refl
last_end-push at (first ∷ tokens) token = last_end-push first.end tokens token

tree_last : (from : ℕ) (tree : Tree) → last_end from (tree_tokens tree) ≡ tree_end tree
tree_last from (leaf token) = refl
tree_last from (nest left inner right) = last_end-push left.end (forest_tokens inner) right

mutual
  tree_in_order : (text : List ℕ) (from to : ℕ) (tree : Tree) → TokensInOrder text from (tree_tokens tree) to → TreeInOrder text from tree
  tree_in_order text from to (leaf token) lies = (lies.0, lies.1)
  tree_in_order text from to (nest left inner right) lies =
      let parts = tokens_split text left.end to (forest_tokens inner) (right ∷ []) lies.2 in
      (lies.0, lies.1, forest_in_order text left.end right.start inner (tokens_later text left.end (last_end left.end (forest_tokens inner)) right.start (forest_tokens inner) parts.1.0 parts.0), parts.1.1)

  forest_in_order : (text : List ℕ) (from to : ℕ) (forest : Forest) → TokensInOrder text from (forest_tokens forest) to → ForestInOrder text from forest to
  forest_in_order text from to none lies = lies
  forest_in_order text from to (cons tree forest) lies =
      let parts = tokens_split text from to (tree_tokens tree) (forest_tokens forest) lies in
      (tree_in_order text from (last_end from (tree_tokens tree)) tree parts.0, forest_in_order text (tree_end tree) to forest (subst (λ n. TokensInOrder text n (forest_tokens forest) to) (tree_last from tree) parts.1))

pub tiled_in_order : (text : List ℕ) (tokens : List Token) (forest : Forest) → TokensTile text tokens → forest_tokens forest ≡ tokens → ForestInOrder text 0 forest (length text)
tiled_in_order text tokens forest tiles same =
    forest_in_order text 0 (length text) forest (subst (λ l. TokensInOrder text 0 l (length text)) (sym same) (tokens_in_order text 0 tokens (omega arith) tiles.each tiles.chained))

mutual
  pub forest_bounds : (text : List ℕ) (from to : ℕ) (forest : Forest) → ForestInOrder text from forest to → from ≤ to
  forest_bounds text from to none lies = lies
  forest_bounds text from to (cons tree forest) lies = let first = tree_bounds text from tree lies.0 in omega (arith, first.0, first.1, forest_bounds text (tree_end tree) to forest lies.1)

  tree_bounds : (text : List ℕ) (from : ℕ) (tree : Tree) → TreeInOrder text from tree → (from ≤ tree_start tree) × (tree_start tree < tree_end tree)
  tree_bounds text from (leaf token) lies = (lies.0, lies.1.some)
  tree_bounds text from (nest left inner right) lies = (lies.0, omega (arith, lies.1.some, forest_bounds text left.end right.start inner lies.2, lies.3.some))

mark_start : (text : List ℕ) (tree : Tree) → (mark_of text tree).start ≡ tree_start tree
unfolding mark_between
mark_start text (leaf token) = refl
mark_start text (nest left inner right) = refl

pub mark_end : (text : List ℕ) (tree : Tree) → (mark_of text tree).end ≡ tree_end tree
unfolding mark_between
mark_end text (leaf token) = refl
mark_end text (nest left inner right) = refl

mark_fits : (text : List ℕ) (from : ℕ) (tree : Tree) → TreeInOrder text from tree → IsFit (mark_of text tree)
mark_fits text from (leaf token) lies = element_fits text token token.end lies.1 (omega arith)
mark_fits text from (nest left inner right) lies = element_fits text left right.end lies.1 (omega (arith, forest_bounds text left.end right.start inner lies.2, lies.3.some))

pub own_in_order : (text : List ℕ) (from to : ℕ) (forest : Forest) → ForestInOrder text from forest to → InOrder from (own_marks text forest) to
own_in_order text from to none lies = lies
own_in_order text from to (cons tree forest) lies =
    let first = tree_bounds text from tree lies.0 in
    (omega (arith, first.0, mark_start text tree), mark_fits text from tree lies.0, subst (λ n. InOrder n (own_marks text forest) to) (sym (mark_end text tree)) (own_in_order text (tree_end tree) to forest lies.1))

pub level_in_order : (text : List ℕ) (from to : ℕ) (forest : Forest) → ForestInOrder text from forest to → InOrder from (level text forest) to
unfolding level
level_in_order text from to forest lies = lies_in_list from to (own_marks text forest) (own_in_order text from to forest lies)

-- what holds of each tree by its places holds of its element
pub beside_marks : {A : Type 0} (R : ℕ → A → ℕ → Type 0) (text : List ℕ) (tree : Tree) (other : A) → R (tree_start tree) other (tree_end tree) → R (mark_of text tree).start other (mark_of text tree).end
beside_marks R text tree other holds = subst (λ n. R n other (mark_of text tree).end) (sym (mark_start text tree)) (subst (λ n. R (tree_start tree) other n) (sym (mark_end text tree)) holds)

-- there is an element at a place in the list
pub record HasAt (list : List Mark) (at : ℕ) : Type 0 where
  pub mark : Mark
  pub marks : List Mark
  pub here : drop at list ≡ mark ∷ marks
  pub behind : drop (suc at) list ≡ marks

pub has_at : (list : List Mark) (at : ℕ) → at < length list → HasAt list at
has_at [] at within = absurd (omega (arith, within))
has_at (mark ∷ marks) zero within = record { mark = mark; marks = marks; here = refl; behind = refl }
has_at (mark ∷ marks) (suc at) within =
    let rest = has_at marks at (omega (arith, within)) in
    record { mark = rest.mark; marks = rest.marks; here = rest.here; behind = rest.behind }

pub end_grows : (from to : ℕ) (marks : List Mark) → InOrder from marks to → from ≤ end_of from marks
end_grows from to marks lies = bounds from (end_of from marks) marks (lies_closely from to marks lies)

pub end_within : (from to : ℕ) (marks : List Mark) → InOrder from marks to → end_of from marks ≤ to
end_within from to [] lies = lies
end_within from to (mark ∷ marks) lies = end_within mark.end to marks lies.2

-- more elements end later
pub end_more : (n m from to : ℕ) (marks : List Mark) → n ≤ m → InOrder from marks to → end_of from (take n marks) ≤ end_of from (take m marks)
end_more zero m from to marks less lies = end_grows from to (take m marks) (lies_take m from to marks lies)
end_more (suc n) zero from to marks less lies = absurd (omega (arith, less))
end_more (suc n) (suc m) from to [] less lies = omega arith
end_more (suc n) (suc m) from to (mark ∷ marks) less lies = end_more n m mark.end to marks (omega (arith, less)) lies.2

-- the end of so many elements is that of the last
pub end_at : (n from : ℕ) (marks others : List Mark) (mark : Mark) → drop n marks ≡ mark ∷ others → end_of from (take (suc n) marks) ≡ mark.end
end_at zero from [] others mark is = cc
end_at zero from (first ∷ marks) others mark is = let same : first ≡ mark = cc in ap (λ m. m.end) same
end_at (suc n) from [] others mark is = cc
end_at (suc n) from (first ∷ marks) others mark is = end_at n first.end marks others mark is

pub mark_lies : (from to : ℕ) (mark : Mark) (marks : List Mark) → InOrder from (mark ∷ marks) to → Between from to (span_of mark)
mark_lies from to mark marks lies = record { begins = lies.0; some = lies.1.some; ends = bounds mark.end to marks lies.2 }

-- a name's own text
pub name_lies : (from to : ℕ) (mark : Mark) (marks : List Mark) → InOrder from (mark ∷ marks) to → Between from mark.end (name_of mark)
name_lies from to mark marks lies =
    elim (is_quoted mark) as (λ b. is_quoted mark ≡ b → Between from mark.end (if b then between mark else span_of mark)) [
      | true ↦ λ is. record { begins = omega (arith, lies.0, lies.1.name is); some = omega (arith, lies.1.name is); ends = omega arith }
      | false ↦ λ is. record { begins = lies.0; some = lies.1.some; ends = omega arith }
    ] refl

pub whole_lies : (from to : ℕ) (marks : List Mark) → InOrder from marks to → MayLie from (whole marks) to
whole_lies from to [] lies = tt
whole_lies from to (mark ∷ marks) lies = record { begins = lies.0; some = omega (arith, lies.1.some, end_grows mark.end to marks lies.2); ends = end_within mark.end to marks lies.2 }
