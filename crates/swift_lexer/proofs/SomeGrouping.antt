-- The tokens of a text have a grouping: the one that the function gives.
use Rattle.std.proofs.Common.{◌≡◌, ℕ, ◌+◌, ◌≤◌, true, false, List, [], ◌∷◌, ◌++◌, length, Ok, Err, sym, refl, ap, subst, arith, ◌∙◌, append-nil}
use Rattle.std.specs.Prelude.{nat_lt, if◌then◌else◌}
use Rattle.std.proofs.lemmas.Bool.{ltb-true, ltb-false}
use Rattle.std.proofs.lemmas.List.{length-append}
use Rattle.swift_lexer.specs.declared.token.Class.{Class}
use Rattle.swift_lexer.specs.declared.token.Class.TheVariants.{LeftBracket, RightBracket}
use Rattle.swift_lexer.specs.declared.token.Token.{Token}
use Rattle.swift_lexer.specs.declared.element.TheConstants.{DEEPEST}
use Rattle.swift_lexer.specs.declared.element.GroupKind.TheVariants.{Mismatched, TooDeep}
use Rattle.swift_lexer.specs.Trees.{Tree, leaf, nest, Forest, none, cons, tree_tokens, forest_tokens, tree_depth, closes, IsMatched, forest_from}
use Rattle.swift_lexer.specs.Groups.{Level, Reaches, IsGrouped, grouped, unopened, mismatched, too_deep, unclosed}
use Rattle.swift_lexer.specs.Bracketing.{Standing, Taken, with_last, opened, closed, taken, at_end, goes_on, groups_from, groups_of}
use Rattle.swift_lexer.specs.Laws.{SomeGroupOutcome}
use Rattle.swift_lexer.proofs.Reaching.{Reaches-push, Reaches-open, Reaches-close, low_innermost}

abbrev trees_of : Forest → List Tree
trees_of none = []
trees_of (cons tree forest) = tree ∷ trees_of forest

from_trees : (forest : Forest) → forest_from (trees_of forest) ≡ forest
from_trees none = refl
from_trees (cons tree forest) = ap (cons tree) (from_trees forest)

from_trees-push : (forest : Forest) (last : Tree) → forest_from (trees_of forest ++ last ∷ []) ≡ with_last forest last
from_trees-push none last = refl
from_trees-push (cons tree forest) last = ap (cons tree) (from_trees-push forest last)

-- the outermost level first
abbrev outward : List Level → List Level
outward [] = []
outward (level ∷ levels) = outward levels ++ level ∷ []

length-outward : (levels : List Level) → length (outward levels) ≡ length levels
length-outward [] = refl
length-outward (level ∷ levels) = omega (arith, length-append (outward levels) (level ∷ []), length-outward levels)

abbrev StandsAt : List ℕ → List Token → List Token → Standing → Type 0
StandsAt text tokens rest standing = Reaches text tokens (outward standing.levels) standing.here rest

-- what a token gives: a state behind it, or the outcome
abbrev Fits : List ℕ → List Token → List Token → Taken → Type 0
Fits text tokens rest (Ok standing) = StandsAt text tokens rest standing
Fits text tokens rest (Err fault) = IsGrouped text tokens (Err fault)

pushed : (text : List ℕ) (tokens : List Token) (levels : List Level) (here : Forest) (tree : Tree) (rest : List Token) → Reaches text tokens levels here (tree_tokens tree ++ rest) → IsMatched text tree → length levels + tree_depth tree ≤ DEEPEST → Reaches text tokens levels (with_last here tree) rest
pushed text tokens levels here tree rest reached one low =
    let before = subst (λ forest. Reaches text tokens levels forest (tree_tokens tree ++ rest)) (sym (from_trees here)) reached in
    subst (λ forest. Reaches text tokens levels forest rest) (from_trees-push here tree) (Reaches-push text tokens levels (trees_of here) tree rest before one low)

opened-fits : (text : List ℕ) (tokens : List Token) (standing : Standing) (left : Token) (rest : List Token) → StandsAt text tokens (left ∷ rest) standing → left.class ≡ LeftBracket → Fits text tokens rest (opened standing left)
opened-fits text tokens standing left rest reached is_left =
    let levels = outward standing.levels in
    elim (nat_lt (length standing.levels) DEEPEST) as (λ low. nat_lt (length standing.levels) DEEPEST ≡ low → Fits text tokens rest (if low then Ok (record { levels = record { before = standing.here; left = left } ∷ standing.levels; here = none }) else Err (record { at = left.start; kind = TooDeep }))) [
      | true ↦ λ low. Reaches-open text tokens levels standing.here left rest reached is_left (omega (arith, ltb-true _ _ low, length-outward standing.levels))
      | false ↦ λ deep. too_deep levels standing.here left rest reached is_left (omega (arith, ltb-false _ _ deep, reached.depth, length-outward standing.levels))
    ] refl

closed-fits : (text : List ℕ) (tokens : List Token) (levels : List Level) (here : Forest) (right : Token) (rest : List Token) → Reaches text tokens (outward levels) here (right ∷ rest) → right.class ≡ RightBracket → Fits text tokens rest (closed text levels here right)
closed-fits text tokens [] here right rest reached is_right = unopened here right rest reached is_right
closed-fits text tokens (level ∷ levels) here right rest reached is_right =
    elim (closes text level.left right) as (λ same. closes text level.left right ≡ same → Fits text tokens rest (if same then Ok (record { levels = levels; here = with_last level.before (nest level.left here right) }) else Err (record { at = right.start; kind = Mismatched }))) [
      | true ↦ λ same.
          let inner = low_innermost text tokens (outward levels) level here (right ∷ rest) reached in
          let around = Reaches-close text tokens (outward levels) level here right rest reached in
          pushed text tokens (outward levels) level.before (nest level.left here right) rest around (inner.0, is_right, same, reached.matched) inner.1
      | false ↦ λ differs. mismatched (outward levels) level here right rest reached is_right differs
    ] refl

abbrev IsLeft : Class → Type 0
IsLeft LeftBracket = Unit {0}
IsLeft _ = ⊥

abbrev IsRight : Class → Type 0
IsRight RightBracket = Unit {0}
IsRight _ = ⊥

taken-fits : (text : List ℕ) (tokens : List Token) (standing : Standing) (token : Token) (rest : List Token) → StandsAt text tokens (token ∷ rest) standing → (class : Class) → token.class ≡ class → Fits text tokens rest (taken text standing token class)
taken-fits text tokens standing token rest reached LeftBracket is = opened-fits text tokens standing token rest reached is
taken-fits text tokens standing token rest reached RightBracket is = closed-fits text tokens standing.levels standing.here token rest reached is
taken-fits text tokens standing token rest reached _ is =
    pushed text tokens (outward standing.levels) standing.here (leaf token) rest reached (λ left. subst IsLeft (sym left ∙ is) tt, λ right. subst IsRight (sym right ∙ is) tt) (omega (arith, reached.depth))

ended-fits : (text : List ℕ) (tokens : List Token) (levels : List Level) (here : Forest) → Reaches text tokens (outward levels) here [] → IsGrouped text tokens (at_end levels here)
ended-fits text tokens [] here reached = grouped here (sym (reached.split ∙ append-nil (forest_tokens here))) reached.matched (omega (arith, reached.depth))
ended-fits text tokens (level ∷ levels) here reached = unclosed (outward levels) level here reached

onwards : (text : List ℕ) (tokens rest : List Token) (step : Taken) → Fits text tokens rest step → ((standing : Standing) → StandsAt text tokens rest standing → IsGrouped text tokens (groups_from text rest standing)) → IsGrouped text tokens (goes_on step (groups_from text rest))
onwards text tokens rest (Ok standing) fits further = further standing fits
onwards text tokens rest (Err fault) fits further = fits

groups-fit : (text : List ℕ) (tokens rest : List Token) (standing : Standing) → StandsAt text tokens rest standing → IsGrouped text tokens (groups_from text rest standing)
groups-fit text tokens [] standing reached = ended-fits text tokens standing.levels standing.here reached
groups-fit text tokens (token ∷ rest) standing reached =
    onwards text tokens rest (taken text standing token token.class) (taken-fits text tokens standing token rest reached token.class refl) (λ next further. groups-fit text tokens rest next further)

pub some_group_outcome : SomeGroupOutcome
unfolding groups_of
some_group_outcome text tokens =
    groups-fit text tokens tokens (record { levels = []; here = none }) (record { split = refl; open_levels = tt; matched = tt; depth = omega arith })
