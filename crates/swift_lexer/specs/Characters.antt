-- Tokens and characters: this project's own.
use Rattle.std.specs.Prelude.{ℕ, List, Ok, All}
use Rattle.std.specs.Str.{IsCharBoundary, IsUtf8}
use Rattle.swift_lexer.specs.declared.token.Token.{Token}
use Rattle.swift_lexer.specs.Tokens.{IsLexed}

-- the token begins and ends between characters of the text
pub record IsOfCharacters (text : List ℕ) (token : Token) : Type 0 where
  pub start : IsCharBoundary text token.start
  pub end : IsCharBoundary text token.end

-- no token of an accepted text begins or ends inside a character
abbrev pub TokensAreOfCharacters : Type 0
TokensAreOfCharacters = (text : List ℕ) (tokens : List Token) → IsLexed text (Ok tokens) → All (IsOfCharacters text) tokens

-- an accepted text is UTF-8
abbrev pub AcceptedTextsAreUtf8 : Type 0
AcceptedTextsAreUtf8 = (text : List ℕ) (tokens : List Token) → IsLexed text (Ok tokens) → IsUtf8 text
