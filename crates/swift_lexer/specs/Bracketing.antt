-- The one grouping of a text's tokens, as a function: this project's own. A law says that it is the outcome of `IsGrouped`.
use Rattle.std.specs.Prelude.{ℕ, nat_lt, List, [], ◌∷◌, length, Result, Ok, Err, if◌then◌else◌}
use Rattle.swift_lexer.specs.declared.token.Class.{Class}
use Rattle.swift_lexer.specs.declared.token.Class.TheVariants.{LeftBracket, RightBracket}
use Rattle.swift_lexer.specs.declared.token.Token.{Token}
use Rattle.swift_lexer.specs.declared.element.GroupFault.{GroupFault}
use Rattle.swift_lexer.specs.declared.element.GroupKind.TheVariants.{Unopened, Unclosed, Mismatched, TooDeep}
use Rattle.swift_lexer.specs.declared.element.TheConstants.{DEEPEST}
use Rattle.swift_lexer.specs.Trees.{Tree, Forest, leaf, nest, none, cons, closes}
use Rattle.swift_lexer.specs.Groups.{Level, GroupOutcome}

-- one tree more
abbrev pub with_last : Forest → Tree → Forest
with_last none last = cons last none
with_last (cons tree forest) last = cons tree (with_last forest last)

-- the levels that are open before a token, the innermost first, and the groups on the innermost
pub record Standing : Type 0 where
  pub levels : List Level
  pub here : Forest

-- what stands behind a token, or the fault at it
abbrev pub Taken : Type 0
Taken = Result Standing GroupFault

abbrev pub opened : Standing → Token → Taken
opened standing left =
    if nat_lt (length standing.levels) DEEPEST then Ok (record { levels = record { before = standing.here; left = left } ∷ standing.levels; here = none })
    else Err (record { at = left.start; kind = TooDeep })

abbrev pub closed : List ℕ → List Level → Forest → Token → Taken
closed text [] here right = Err (record { at = right.start; kind = Unopened })
closed text (level ∷ levels) here right =
    if closes text level.left right then Ok (record { levels = levels; here = with_last level.before (nest level.left here right) })
    else Err (record { at = right.start; kind = Mismatched })

-- one more level, one less, or one more tree
abbrev pub taken : List ℕ → Standing → Token → Class → Taken
taken text standing token LeftBracket = opened standing token
taken text standing token RightBracket = closed text standing.levels standing.here token
taken text standing token _ = Ok (record standing { here = with_last standing.here (leaf token) })

-- nothing may be open at the end
abbrev pub at_end : List Level → Forest → GroupOutcome
at_end [] here = Ok here
at_end (level ∷ levels) here = Err (record { at = level.left.start; kind = Unclosed })

abbrev pub goes_on : Taken → (Standing → GroupOutcome) → GroupOutcome
goes_on (Ok standing) rest = rest standing
goes_on (Err fault) rest = Err fault

-- the tokens in turn; the first fault counts
abbrev pub groups_from : List ℕ → List Token → Standing → GroupOutcome
groups_from text [] standing = at_end standing.levels standing.here
groups_from text (token ∷ tokens) standing = goes_on (taken text standing token token.class) (groups_from text tokens)

unfoldable pub groups_of : List ℕ → List Token → GroupOutcome
groups_of text tokens = groups_from text tokens (record { levels = []; here = none })
