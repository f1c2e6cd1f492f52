-- What stands at the front of a text outside strings: this project's own grammar, after the lexical structure of Swift.
use Rattle.std.specs.Prelude.{ℕ, true, false, List, [], ◌∷◌, Option, Some, None, if◌then◌else◌, ◌==◌, ◌&&◌, not}
use Rattle.std.specs.Char.{is_ascii_digit}
use Rattle.swift_lexer.specs.declared.chars.Front.{Front}
use Rattle.swift_lexer.specs.declared.chars.Front.TheVariants as front
use Rattle.swift_lexer.specs.declared.chars.TheConstants.{QUOTE, BACKQUOTE, POUND, DOT, SLASH, STAR}
use Rattle.swift_lexer.specs.declared.token.Class.TheVariants.{Word, Quoted, Number, Pound, At, Punct, Oper, LeftBracket, RightBracket}
use Rattle.swift_lexer.specs.declared.token.LexKind.TheVariants.{BadCharacter, OpenComment, ExtendedRegex}
use Rattle.swift_lexer.specs.declared.found.Found.{Found}
use Rattle.swift_lexer.specs.declared.found.Found.TheVariants.{Trivia, Token, Opens, Fails}
use Rattle.swift_lexer.specs.Chars.{is_blank, is_line_end, is_word_part, is_name_start, is_number_part, operator_part, is_quoted_part, front_of}
use Rattle.swift_lexer.specs.Texts.{starts, begins, behind, after_run, after_operator, after_marks, after_comment, pounds}

-- what stands there, and what stands behind it; for a fault, where it stands
abbrev pub Finding : Type 0
Finding = Found × List ℕ

-- behind the whole part of a number: its fraction, where a dot and a digit follow
unfoldable pub after_fraction : List ℕ → List ℕ
after_fraction text = if begins DOT text && starts is_ascii_digit (behind text) then after_run is_number_part (behind text) else text

-- behind the first quote of a string with so many pound signs: of three quotes where two more follow, else of one
abbrev pub opening_by : ℕ → List ℕ → Option (List ℕ) → Finding
opening_by n text (Some inside) = (Opens (record { pounds = n; triple = true }), inside)
opening_by n text None = (Opens (record { pounds = n; triple = false }), text)

unfoldable pub opening : ℕ → List ℕ → Finding
opening n text = opening_by n text (after_marks QUOTE 2 text)

-- a nested comment, which has to end
abbrev pub comment_by : List ℕ → Option (List ℕ) → Finding
comment_by text (Some rest) = (Trivia, rest)
comment_by text None = (Fails OpenComment, text)

-- a comment up to the end of its line, a nested comment, or an operator
unfoldable pub slash : List ℕ → List ℕ → Finding
slash text rest =
    if begins SLASH rest then (Trivia, after_run (λ c. not (is_line_end c)) (behind rest))
    else (if begins STAR rest then comment_by text (after_comment 1 (behind rest))
    else (Token Oper, after_operator (operator_part false) rest))

-- a name between backquotes, with a character at least
unfoldable pub quoted : List ℕ → List ℕ → Finding
quoted text rest =
    if starts is_quoted_part rest && begins BACKQUOTE (after_run is_quoted_part rest) then (Token Quoted, behind (after_run is_quoted_part rest))
    else (Fails BadCharacter, text)

-- behind n pound signs: a string, a regular expression, or behind one sign alone a word
unfoldable pub pound : List ℕ → ℕ → List ℕ → Finding
pound text n rest =
    if begins QUOTE rest then opening n (behind rest)
    else (if begins SLASH rest then (Fails ExtendedRegex, text)
    else (if n == 1 && starts is_name_start rest then (Token Pound, after_run is_word_part (behind rest))
    else (Fails BadCharacter, text)))

-- two dots or more, with operator characters; or one dot
unfoldable pub dot : List ℕ → Finding
dot rest = if begins DOT rest then (Token Oper, after_operator (operator_part true) rest) else (Token Punct, rest)

-- by the kind of the first character, behind which `rest` stands: one row a kind
abbrev pub by_front : Front → List ℕ → List ℕ → Finding
by_front front.Word text rest = (Token Word, after_run is_word_part rest)
by_front front.Blank text rest = (Trivia, after_run is_blank rest)
by_front front.Digit text rest = (Token Number, after_fraction (after_run is_number_part rest))
by_front front.Mark text rest = (Token Punct, rest)
by_front front.Dot text rest = dot rest
by_front front.Left text rest = (Token LeftBracket, rest)
by_front front.Right text rest = (Token RightBracket, rest)
by_front front.Slash text rest = slash text rest
by_front front.Quote text rest = opening 0 rest
by_front front.Pound text rest = pound text (pounds text) (after_run (λ c. c == POUND) text)
by_front front.At text rest = (Token At, rest)
by_front front.Backquote text rest = quoted text rest
by_front front.Operator text rest = (Token Oper, after_operator (operator_part false) rest)
by_front front.Other text rest = (Fails BadCharacter, text)

-- nothing at the end of a text
unfoldable pub at_front : List ℕ → Option Finding
at_front [] = None
at_front (c ∷ cs) = Some (by_front (front_of c) (c ∷ cs) cs)
