-- How tokens and trivia lie in a text: this project's own words.
use Rattle.std.specs.Prelude.{◌≡◌, ℕ, ◌<◌, ◌≤◌, List, [], ◌∷◌, length, drop, slice_range, All}
use Rattle.swift_lexer.specs.Spellings.{IsToken, Follows}
use Rattle.swift_lexer.specs.Trivia.{AreTrivia}
use Rattle.swift_lexer.specs.declared.token.Token.{Token}

-- the bytes of a token
abbrev pub bytes_of : List ℕ → Token → List ℕ
bytes_of text token = slice_range text token.start token.end

-- the token lies within the text behind its trivia; its bytes are those of its class, and what follows doesn't go on with it
pub record IsTile (text : List ℕ) (token : Token) : Type 0 where
  pub trivia : token.trivia ≤ token.start
  pub some : token.start < token.end
  pub within : token.end ≤ length text
  pub blank : AreTrivia token.trivia (slice_range text token.trivia token.start)
  pub spelled : IsToken token.class (bytes_of text token)
  pub followed : Follows token.class (drop token.end text)

-- the trivia of each token begins at the end of the one before, that of the first at `at`
abbrev pub Chained : ℕ → List Token → Type 0
Chained at [] = Unit {0}
Chained at (token ∷ tokens) = (token.trivia ≡ at) × Chained token.end tokens

-- the end of the last token
abbrev pub last_end : ℕ → List Token → ℕ
last_end at [] = at
last_end at (token ∷ tokens) = last_end token.end tokens

-- tokens and trivia tile the text
pub record TokensTile (text : List ℕ) (tokens : List Token) : Type 0 where
  pub each : All (IsTile text) tokens
  pub chained : Chained 0 tokens
  pub behind : AreTrivia (last_end 0 tokens) (drop (last_end 0 tokens) text)
