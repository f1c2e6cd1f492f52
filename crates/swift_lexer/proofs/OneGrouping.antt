-- The tokens of a text have at most one grouping: each outcome is the one that the function gives.
use Rattle.std.proofs.Common.{◌≡◌, ◌≢◌, ℕ, ◌+◌, ◌<◌, ◌≤◌, true, false, List, [], ◌∷◌, ◌++◌, length, Ok, Err, sym, refl, ap, arith, ◌∙◌, append_assoc, append-nil}
use Rattle.std.specs.Prelude.{if◌then◌else◌}
use Rattle.std.proofs.lemmas.Bool.{lt-ltb, le-ltb}
use Rattle.swift_lexer.specs.declared.token.Class.{Class}
use Rattle.swift_lexer.specs.declared.token.Class.TheVariants.{LeftBracket, RightBracket}
use Rattle.swift_lexer.specs.declared.token.Token.{Token}
use Rattle.swift_lexer.specs.declared.element.TheConstants.{DEEPEST}
use Rattle.swift_lexer.specs.declared.element.GroupKind.TheVariants.{Mismatched, TooDeep}
use Rattle.swift_lexer.specs.Trees.{Tree, leaf, nest, Forest, none, cons, tree_tokens, forest_tokens, tree_depth, forest_depth, closes, IsMatched, AreMatched}
use Rattle.swift_lexer.specs.Groups.{Level, open_tokens, AreOpen, Reaches, GroupOutcome, IsGrouped, grouped, unopened, mismatched, too_deep, unclosed}
use Rattle.swift_lexer.specs.Bracketing.{Standing, Taken, with_last, taken, goes_on, groups_from}
use Rattle.swift_lexer.specs.Laws.{OneGroupOutcome}

-- two forests in a row
abbrev both : Forest → Forest → Forest
both none second = second
both (cons tree forest) second = cons tree (both forest second)

both-none : (forest : Forest) → both forest none ≡ forest
both-none none = refl
both-none (cons tree forest) = ap (cons tree) (both-none forest)

both-last : (forest : Forest) (tree : Tree) (second : Forest) → both (with_last forest tree) second ≡ both forest (cons tree second)
both-last none tree second = refl
both-last (cons first forest) tree second = ap (cons first) (both-last forest tree second)

-- what the tokens give where these levels are open, the innermost first, and these groups stand on the innermost
abbrev run : List ℕ → List Token → List Level → Forest → GroupOutcome
run text tokens levels here = groups_from text tokens (record { levels = levels; here = here })

abbrev further : List ℕ → List Token → Taken → GroupOutcome
further text rest step = goes_on step (groups_from text rest)

taken-leaf : (class : Class) (text : List ℕ) (standing : Standing) (token : Token) → class ≢ LeftBracket → class ≢ RightBracket → taken text standing token class ≡ Ok (record { levels = standing.levels; here = with_last standing.here (leaf token) })
taken-leaf LeftBracket text standing token not_left not_right = absurd (not_left refl)
taken-leaf RightBracket text standing token not_left not_right = absurd (not_right refl)
taken-leaf _ text standing token not_left not_right = refl

taken-left : (class : Class) (text : List ℕ) (standing : Standing) (token : Token) → class ≡ LeftBracket → length standing.levels < DEEPEST → taken text standing token class ≡ Ok (record { levels = record { before = standing.here; left = token } ∷ standing.levels; here = none })
taken-left class text standing token is_left low =
    ap (taken text standing token) is_left ∙ ap (λ b. if b then Ok (record { levels = record { before = standing.here; left = token } ∷ standing.levels; here = none }) else Err (record { at = token.start; kind = TooDeep })) (lt-ltb (length standing.levels) DEEPEST low)

taken-deep : (class : Class) (text : List ℕ) (standing : Standing) (token : Token) → class ≡ LeftBracket → DEEPEST ≤ length standing.levels → taken text standing token class ≡ Err (record { at = token.start; kind = TooDeep })
taken-deep class text standing token is_left deep =
    ap (taken text standing token) is_left ∙ ap (λ b. if b then Ok (record { levels = record { before = standing.here; left = token } ∷ standing.levels; here = none }) else Err (record { at = token.start; kind = TooDeep })) (le-ltb (length standing.levels) DEEPEST deep)

module _ (class : Class) (text : List ℕ) (level : Level) (levels : List Level) (here : Forest) (token : Token) (is_right : class ≡ RightBracket) where
  taken-right : closes text level.left token ≡ true → taken text (record { levels = level ∷ levels; here = here }) token class ≡ Ok (record { levels = levels; here = with_last level.before (nest level.left here token) })
  taken-right same =
      ap (taken text (record { levels = level ∷ levels; here = here }) token) is_right ∙ ap (λ b. if b then Ok (record { levels = levels; here = with_last level.before (nest level.left here token) }) else Err (record { at = token.start; kind = Mismatched })) same

  taken-mismatched : closes text level.left token ≡ false → taken text (record { levels = level ∷ levels; here = here }) token class ≡ Err (record { at = token.start; kind = Mismatched })
  taken-mismatched differs =
      ap (taken text (record { levels = level ∷ levels; here = here }) token) is_right ∙ ap (λ b. if b then Ok (record { levels = levels; here = with_last level.before (nest level.left here token) }) else Err (record { at = token.start; kind = Mismatched })) differs

-- matched groups are read as they are
mutual
  run-tree : (text : List ℕ) (tree : Tree) (rest : List Token) (levels : List Level) (here : Forest) → IsMatched text tree → length levels + tree_depth tree ≤ DEEPEST → run text (tree_tokens tree ++ rest) levels here ≡ run text rest levels (with_last here tree)
  run-tree text (leaf token) rest levels here matched low =
      ap (further text rest) (taken-leaf token.class text (record { levels = levels; here = here }) token matched.0 matched.1)
  run-tree text (nest left inner right) rest levels here matched low =
      let level : Level = record { before = here; left = left } in
      let opened = ap (further text ((forest_tokens inner ++ right ∷ []) ++ rest)) (taken-left left.class text (record { levels = levels; here = here }) left matched.0 (omega arith)) in
      let regrouped = ap (λ l. run text l (level ∷ levels) none) (append_assoc (forest_tokens inner) (right ∷ []) rest) in
      let inside = run-forest text inner (right ∷ rest) (level ∷ levels) none matched.3 (omega arith) in
      let closed = ap (further text rest) (taken-right right.class text level levels inner right matched.1 matched.2) in
      opened ∙ regrouped ∙ inside ∙ closed

  run-forest : (text : List ℕ) (forest : Forest) (rest : List Token) (levels : List Level) (here : Forest) → AreMatched text forest → length levels + forest_depth forest ≤ DEEPEST → run text (forest_tokens forest ++ rest) levels here ≡ run text rest levels (both here forest)
  run-forest text none rest levels here matched low = ap (run text rest levels) (sym (both-none here))
  run-forest text (cons tree forest) rest levels here matched low =
      let regrouped = ap (λ l. run text l levels here) (append_assoc (tree_tokens tree) (forest_tokens forest) rest) in
      let first = run-tree text tree (forest_tokens forest ++ rest) levels here matched.0 (omega arith) in
      let others = run-forest text forest rest levels (with_last here tree) matched.1 (omega arith) in
      regrouped ∙ first ∙ others ∙ ap (run text rest levels) (both-last here tree forest)

-- the levels, the innermost first, before further ones
abbrev turned : List Level → List Level → List Level
turned [] levels = levels
turned (level ∷ others) levels = turned others (level ∷ levels)

turned-push : (levels around : List Level) (level : Level) → turned (levels ++ level ∷ []) around ≡ level ∷ turned levels around
turned-push [] around level = refl
turned-push (first ∷ levels) around level = turned-push levels (first ∷ around) level

length-turned : (levels around : List Level) → length (turned levels around) ≡ length levels + length around
length-turned [] around = omega arith
length-turned (level ∷ levels) around = omega (arith, length-turned levels (level ∷ around))

run-open : (text : List ℕ) (levels : List Level) (rest : List Token) (around : List Level) → AreOpen text (length around) levels → length around + length levels ≤ DEEPEST → run text (open_tokens levels ++ rest) around none ≡ run text rest (turned levels around) none
run-open text [] rest around opened low = refl
run-open text (level ∷ levels) rest around opened low =
    let regrouped = ap (λ l. run text l around none) (append_assoc (forest_tokens level.before) (level.left ∷ open_tokens levels) rest) in
    let before = run-forest text level.before (level.left ∷ (open_tokens levels ++ rest)) around none opened.0 opened.1 in
    let left = ap (further text (open_tokens levels ++ rest)) (taken-left level.left.class text (record { levels = around; here = level.before }) level.left opened.2 (omega arith)) in
    regrouped ∙ before ∙ left ∙ run-open text levels rest (level ∷ around) opened.3 (omega arith)

run-reaches : (text : List ℕ) (tokens : List Token) (levels : List Level) (here : Forest) (rest : List Token) → Reaches text tokens levels here rest → run text tokens [] none ≡ run text rest (turned levels []) here
run-reaches text tokens levels here rest reached =
    let opened = run-open text levels (forest_tokens here ++ rest) [] reached.open_levels (omega (arith, reached.depth)) in
    let inside = run-forest text here rest (turned levels []) none reached.matched (omega (arith, reached.depth, length-turned levels [])) in
    ap (λ l. run text l [] none) reached.split ∙ opened ∙ inside

run-grouped : (text : List ℕ) (tokens : List Token) (outcome : GroupOutcome) → IsGrouped text tokens outcome → run text tokens [] none ≡ outcome
run-grouped text tokens outcome (grouped forest same matched low) =
    ap (λ l. run text l [] none) (sym same ∙ sym (append-nil (forest_tokens forest))) ∙ run-forest text forest [] [] none matched (omega (arith, low))
run-grouped text tokens outcome (unopened here right rest reached is_right) =
    run-reaches text tokens [] here (right ∷ rest) reached ∙ ap (λ c. further text rest (taken text (record { levels = []; here = here }) right c)) is_right
run-grouped text tokens outcome (mismatched levels level here right rest reached is_right differs) =
    run-reaches text tokens (levels ++ level ∷ []) here (right ∷ rest) reached ∙ ap (λ l. run text (right ∷ rest) l here) (turned-push levels [] level) ∙ ap (further text rest) (taken-mismatched right.class text level (turned levels []) here right is_right differs)
run-grouped text tokens outcome (too_deep levels here left rest reached is_left deep) =
    run-reaches text tokens levels here (left ∷ rest) reached ∙ ap (further text rest) (taken-deep left.class text (record { levels = turned levels []; here = here }) left is_left (omega (arith, deep, length-turned levels [])))
run-grouped text tokens outcome (unclosed levels level here reached) =
    run-reaches text tokens (levels ++ level ∷ []) here [] reached ∙ ap (λ l. run text [] l here) (turned-push levels [] level)

pub one_group_outcome : OneGroupOutcome
one_group_outcome text tokens one other first second = sym (run-grouped text tokens one first) ∙ run-grouped text tokens other second
