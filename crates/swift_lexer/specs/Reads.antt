-- A text that is read without a fault: this project's own.
use Rattle.std.specs.Prelude.{ℕ, List, Ok}
use Rattle.swift_lexer.specs.Tokens.{IsLexed, IsLexedFrom}
use Rattle.swift_lexer.specs.Groups.{IsGrouped}
use Rattle.swift_lexer.specs.Trees.{Forest, forest_tokens}

-- the text's tokens are those of the groups, and are grouped so
pub record ReadsAs (text : List ℕ) (forest : Forest) : Type 0 where
  pub lexed : IsLexed text (Ok (forest_tokens forest))
  pub grouped : IsGrouped text (forest_tokens forest) (Ok forest)

-- the same for the last characters of a text of so many bytes
pub record ReadsFrom (text : List ℕ) (total : ℕ) (rest : List ℕ) (forest : Forest) : Type 0 where
  pub lexed : IsLexedFrom total 0 rest (Ok (forest_tokens forest))
  pub grouped : IsGrouped text (forest_tokens forest) (Ok forest)
