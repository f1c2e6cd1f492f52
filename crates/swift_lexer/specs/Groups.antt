-- The bracket groups of a text's tokens: this project's own, after the brackets of Swift.
use Rattle.std.specs.Prelude.{◌≡◌, ℕ, suc, ◌+◌, ◌≤◌, List, [], ◌∷◌, ◌++◌, length, Result, Ok, Err, false}
use Rattle.swift_lexer.specs.Trees.{Forest, forest_tokens, forest_depth, AreMatched, closes}
use Rattle.swift_lexer.specs.declared.token.Class.TheVariants.{LeftBracket, RightBracket}
use Rattle.swift_lexer.specs.declared.token.Token.{Token}
use Rattle.swift_lexer.specs.declared.element.GroupFault.{GroupFault}
use Rattle.swift_lexer.specs.declared.element.GroupKind.TheVariants.{Unopened, Unclosed, Mismatched, TooDeep}
use Rattle.swift_lexer.specs.declared.element.TheConstants.{DEEPEST}

-- a left bracket that is still open, and what stands before it on its level
pub record Level : Type 0 where
  pub before : Forest
  pub left : Token

-- the tokens up to the innermost open bracket, in the order of the text
abbrev pub open_tokens : List Level → List Token
open_tokens [] = []
open_tokens (level ∷ levels) = forest_tokens level.before ++ level.left ∷ open_tokens levels

-- the groups on the levels are matched, and none lies too deep
abbrev pub AreOpen : List ℕ → ℕ → List Level → Type 0
AreOpen text depth [] = Unit {0}
AreOpen text depth (level ∷ levels) = AreMatched text level.before × (depth + forest_depth level.before ≤ DEEPEST) × (level.left.class ≡ LeftBracket) × AreOpen text (suc depth) levels

-- the tokens are those of the open levels, then the groups here on the innermost level, then the rest
pub record Reaches (text : List ℕ) (tokens : List Token) (levels : List Level) (here : Forest) (rest : List Token) : Type 0 where
  pub split : tokens ≡ open_tokens levels ++ (forest_tokens here ++ rest)
  pub open_levels : AreOpen text 0 levels
  pub matched : AreMatched text here
  pub depth : length levels + forest_depth here ≤ DEEPEST

abbrev pub GroupOutcome : Type 0
GroupOutcome = Result Forest GroupFault

-- the outcome of a text's tokens: their groups, or the first fault of their brackets
pub data IsGrouped (text : List ℕ) (tokens : List Token) : GroupOutcome → Type 0 where
  grouped : (forest : Forest) → forest_tokens forest ≡ tokens → AreMatched text forest → forest_depth forest ≤ DEEPEST → IsGrouped text tokens (Ok forest)
  unopened : (here : Forest) (right : Token) (rest : List Token) → Reaches text tokens [] here (right ∷ rest) → right.class ≡ RightBracket → IsGrouped text tokens (Err (record { at = right.start; kind = Unopened }))
  mismatched : (levels : List Level) (level : Level) (here : Forest) (right : Token) (rest : List Token) → Reaches text tokens (levels ++ level ∷ []) here (right ∷ rest) → right.class ≡ RightBracket → closes text level.left right ≡ false → IsGrouped text tokens (Err (record { at = right.start; kind = Mismatched }))
  too_deep : (levels : List Level) (here : Forest) (left : Token) (rest : List Token) → Reaches text tokens levels here (left ∷ rest) → left.class ≡ LeftBracket → length levels ≡ DEEPEST → IsGrouped text tokens (Err (record { at = left.start; kind = TooDeep }))
  unclosed : (levels : List Level) (level : Level) (here : Forest) → Reaches text tokens (levels ++ level ∷ []) here [] → IsGrouped text tokens (Err (record { at = level.left.start; kind = Unclosed }))
