-- How the tokens of each class are spelled: this project's own grammar, after the lexical structure of Swift.
use Rattle.std.specs.Prelude.{◌≡◌, ℕ, ◌<◌, ◌⊎◌, true, false, List, [], ◌∷◌, ◌++◌, length, ◌&&◌, not}
use Rattle.std.specs.List.{AllPass}
use Rattle.std.specs.Char.{is_ascii_digit}
use Rattle.std.specs.Str.{encode_utf8_all}
use Rattle.swift_lexer.specs.declared.token.Class.{Class}
use Rattle.swift_lexer.specs.declared.token.Class.TheVariants.{Word, Quoted, Number, Str, Pound, At, Punct, Oper, LeftBracket, RightBracket}
use Rattle.swift_lexer.specs.declared.chars.TheConstants.{QUOTE, BACKQUOTE, POUND, AT, DOT}
use Rattle.swift_lexer.specs.Bytes.{is_left_bracket, is_right_bracket}
use Rattle.swift_lexer.specs.declared.found.Quotes.{Quotes}
use Rattle.swift_lexer.specs.Strings.{quotes_of}
use Rattle.swift_lexer.specs.Texts.{starts, times, begins_comment}
use Rattle.swift_lexer.specs.Chars.{is_mark, is_word_start, is_word_part, is_name_start, is_number_part, operator_part, is_quoted_part}

-- a name between backquotes, behind the first one
pub record IsQuotedName (cs : List ℕ) : Type 0 where
  pub name : List ℕ
  pub some : 0 < length name
  pub parts : AllPass is_quoted_part name
  pub closed : cs ≡ name ++ BACKQUOTE ∷ []

-- the fraction of a number, behind its dot
pub record HasFraction (cs : List ℕ) : Type 0 where
  pub whole : List ℕ
  pub digit : ℕ
  pub fraction : List ℕ
  pub whole_parts : AllPass is_number_part whole
  pub is_digit : is_ascii_digit digit ≡ true
  pub fraction_parts : AllPass is_number_part fraction
  pub split : cs ≡ whole ++ DOT ∷ digit ∷ fraction

-- the word behind a `#`
abbrev pub IsName : List ℕ → Type 0
IsName [] = ⊥
IsName (c ∷ cs) = (is_name_start c ≡ true) × AllPass is_word_part cs

-- the operators, behind their first character: without dots, or behind a dot with one more at least
abbrev pub IsDotted : List ℕ → Type 0
IsDotted [] = ⊥
IsDotted (c ∷ cs) = (c ≡ DOT) × AllPass (operator_part true) cs

-- a string: pound signs, quotes, what stands inside, and as many quotes and pound signs again
pub record IsString (characters : List ℕ) : Type 0 where
  pub quotes : Quotes
  pub inside : List ℕ
  pub split : characters ≡ times quotes.pounds POUND (times (quotes_of quotes) QUOTE (inside ++ times (quotes_of quotes) QUOTE (times quotes.pounds POUND [])))

-- by a token's first character and the others: one row a class
abbrev pub SpellsWith : Class → ℕ → List ℕ → Type 0
SpellsWith Word c cs = (is_word_start c ≡ true) × AllPass is_word_part cs
SpellsWith Quoted c cs = (c ≡ BACKQUOTE) × IsQuotedName cs
SpellsWith Number c cs = (is_ascii_digit c ≡ true) × (AllPass is_number_part cs ⊎ HasFraction cs)
SpellsWith Str c cs = IsString (c ∷ cs)
SpellsWith Pound c cs = (c ≡ POUND) × IsName cs
SpellsWith At c cs = (c ≡ AT) × (cs ≡ [])
SpellsWith Punct c cs = ((is_mark c ≡ true) ⊎ (c ≡ DOT)) × (cs ≡ [])
SpellsWith Oper c cs = AllPass (operator_part false) (c ∷ cs) ⊎ ((c ≡ DOT) × IsDotted cs)
SpellsWith LeftBracket c cs = (is_left_bracket c ≡ true) × (cs ≡ [])
SpellsWith RightBracket c cs = (is_right_bracket c ≡ true) × (cs ≡ [])

abbrev pub Spells : Class → List ℕ → Type 0
Spells class [] = ⊥
Spells class (c ∷ cs) = SpellsWith class c cs

-- the bytes spell a token of the class
pub record IsToken (class : Class) (bytes : List ℕ) : Type 0 where
  pub characters : List ℕ
  pub encoded : encode_utf8_all characters ≡ bytes
  pub spelled : Spells class characters

-- what may not follow a token, since the token would go on with it: one row a class
abbrev pub StopsBefore : Class → List ℕ → Type 0
StopsBefore Word rest = starts is_word_part rest ≡ false
StopsBefore Number rest = (starts is_number_part rest ≡ false)
StopsBefore Pound rest = starts is_word_part rest ≡ false
StopsBefore Oper rest = (starts (operator_part false) rest && not (begins_comment rest)) ≡ false
StopsBefore _ rest = Unit {0}

-- the bytes that follow a token of the class don't go on with it
pub record Follows (class : Class) (bytes : List ℕ) : Type 0 where
  pub characters : List ℕ
  pub encoded : encode_utf8_all characters ≡ bytes
  pub stops : StopsBefore class characters
