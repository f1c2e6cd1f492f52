-- How trivia are spelled: this project's own grammar, after the lexical structure of Swift.
use Rattle.std.specs.Prelude.{◌≡◌, ℕ, ◌⊎◌, Bool, List, [], ◌∷◌, ◌++◌, Some, not}
use Rattle.std.specs.List.{AllPass}
use Rattle.std.specs.Str.{encode_utf8_all}
use Rattle.swift_lexer.specs.declared.chars.TheConstants.{SLASH, STAR, BYTE_ORDER_MARK}
use Rattle.swift_lexer.specs.Chars.{is_blank, is_line_end}
use Rattle.swift_lexer.specs.Texts.{after_comment}

abbrev pub in_line : ℕ → Bool
in_line c = not (is_line_end c)

-- blanks, a comment to the end of its line, or a comment that ends with the end of the outermost
pub data IsPiece : List ℕ → Type 0 where
  blanks : (piece : List ℕ) → AllPass is_blank piece → IsPiece piece
  line : (piece others : List ℕ) → piece ≡ SLASH ∷ SLASH ∷ others → AllPass in_line others → IsPiece piece
  nested : (piece inside : List ℕ) → piece ≡ SLASH ∷ STAR ∷ inside → after_comment 1 inside ≡ Some [] → IsPiece piece

-- pieces in a row
pub data IsTrivia : List ℕ → Type 0 where
  none : IsTrivia []
  more : (all piece others : List ℕ) → all ≡ piece ++ others → IsPiece piece → IsTrivia others → IsTrivia all

-- behind a byte order mark, which is trivia at the beginning of the text
pub record IsMarked (characters : List ℕ) : Type 0 where
  pub others : List ℕ
  pub split : characters ≡ BYTE_ORDER_MARK ∷ others
  pub trivia : IsTrivia others

-- the bytes at this place of a text are trivia
pub record AreTrivia (at : ℕ) (bytes : List ℕ) : Type 0 where
  pub characters : List ℕ
  pub encoded : encode_utf8_all characters ≡ bytes
  pub spelled : IsTrivia characters ⊎ ((at ≡ 0) × IsMarked characters)
