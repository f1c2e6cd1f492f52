-- Laws of the definitions.
use Rattle.std.specs.Prelude.{◌≡◌, ℕ, ◌<◌, ◌≤◌, List, length, slice_index, Ok, true}
use Rattle.swift_lexer.specs.Bytes.{is_left_bracket, is_right_bracket}
use Rattle.swift_lexer.specs.Spellings.{IsToken}
use Rattle.swift_lexer.specs.Tokens.{Outcome, IsLexed}
use Rattle.swift_lexer.specs.Tiles.{TokensTile}
use Rattle.swift_lexer.specs.Trees.{Forest, forest_tokens, forest_depth, AreMatched}
use Rattle.swift_lexer.specs.Groups.{GroupOutcome, IsGrouped}
use Rattle.swift_lexer.specs.Bracketing.{groups_of}
use Rattle.swift_lexer.specs.declared.element.TheConstants.{DEEPEST}
use Rattle.swift_lexer.specs.declared.token.Class.{Class}
use Rattle.swift_lexer.specs.declared.token.Class.TheVariants.{LeftBracket, RightBracket}
use Rattle.swift_lexer.specs.declared.token.Token.{Token}

-- a text has at most one outcome
abbrev pub OneTokenOutcome : Type 0
OneTokenOutcome = (text : List ℕ) (one other : Outcome) → IsLexed text one → IsLexed text other → one ≡ other

-- a text has an outcome
abbrev pub SomeTokenOutcome : Type 0
SomeTokenOutcome = (text : List ℕ) → (outcome : Outcome) × IsLexed text outcome

-- the tokens of a text and their trivia tile it
abbrev pub TokensOfATextTile : Type 0
TokensOfATextTile = (text : List ℕ) (tokens : List Token) → IsLexed text (Ok tokens) → TokensTile text tokens

-- a token has a byte, and a bracket is one byte
abbrev pub TokenBytes : Type 0
TokenBytes = (class : Class) (bytes : List ℕ) → IsToken class bytes → (0 < length bytes)
    × (class ≡ LeftBracket → (length bytes ≡ 1) × (is_left_bracket (slice_index bytes 0) ≡ true))
    × (class ≡ RightBracket → (length bytes ≡ 1) × (is_right_bracket (slice_index bytes 0) ≡ true))

-- the tokens of a text have at most one grouping
abbrev pub OneGroupOutcome : Type 0
OneGroupOutcome = (text : List ℕ) (tokens : List Token) (one other : GroupOutcome) → IsGrouped text tokens one → IsGrouped text tokens other → one ≡ other

-- the tokens of a text have a grouping, which the function gives
abbrev pub SomeGroupOutcome : Type 0
SomeGroupOutcome = (text : List ℕ) (tokens : List Token) → IsGrouped text tokens (groups_of text tokens)

-- the tokens of the groups are the tokens that were grouped; brackets match and are nested as deep as they may
abbrev pub GroupsHoldTheTokens : Type 0
GroupsHoldTheTokens = (text : List ℕ) (tokens : List Token) (forest : Forest) → IsGrouped text tokens (Ok forest) → (forest_tokens forest ≡ tokens) × AreMatched text forest × (forest_depth forest ≤ DEEPEST)
