-- Which characters are what. This project's own tables, after the lexical structure of Swift.
use Rattle.std.specs.Prelude.{ℕ, Bool, if◌then◌else◌, ◌==◌, ◌&&◌, ◌||◌, nat_le, not}
use Rattle.std.specs.Char.{is_ascii_alphanumeric, is_ascii_digit}
use Rattle.std.specs.List.{list_any}
use Rattle.unicode_ident.specs.Ident.{is_xid_start, is_xid_continue}
use Rattle.swift_lexer.specs.Bytes.{is_left_bracket, is_right_bracket}
use Rattle.swift_lexer.specs.declared.chars.Front.{Front}
use Rattle.swift_lexer.specs.declared.chars.Front.TheVariants as front
use Rattle.swift_lexer.specs.declared.chars.Run.{Run}
use Rattle.swift_lexer.specs.declared.chars.Run.TheVariants as run
use Rattle.swift_lexer.specs.declared.chars.TheConstants.{BLANKS, LINE_ENDS, MARKS, OPERATORS, OPERATOR_RANGES, UNDERSCORE, DOLLAR, QUOTE, BACKQUOTE, BACKSLASH, POUND, AT, DOT, SLASH}

abbrev pub is_blank : ℕ → Bool
is_blank c = list_any (λ blank. blank == c) BLANKS

abbrev pub is_line_end : ℕ → Bool
is_line_end c = list_any (λ end. end == c) LINE_ENDS

-- the marks that are tokens by themselves
abbrev pub is_mark : ℕ → Bool
is_mark c = list_any (λ mark. mark == c) MARKS

-- UAX 31, and the two further characters with which a Swift word may begin
unfoldable pub is_word_start : ℕ → Bool
is_word_start c = is_xid_start c || c == UNDERSCORE || c == DOLLAR

unfoldable pub is_word_part : ℕ → Bool
is_word_part c = is_xid_continue c

-- with which the word behind a `#` begins
unfoldable pub is_name_start : ℕ → Bool
is_name_start c = is_word_start c && not (c == DOLLAR)

unfoldable pub is_number_part : ℕ → Bool
is_number_part c = is_ascii_alphanumeric c || c == UNDERSCORE

abbrev pub is_in_ranges : ℕ → Bool
is_in_ranges c = list_any (λ range. nat_le range.0 c && nat_le c range.1) OPERATOR_RANGES

-- a character past ASCII that is no part of words and lies in one of the ranges
unfoldable pub is_wide_operator : ℕ → Bool
is_wide_operator c = nat_le 128 c && not (is_xid_continue c) && is_in_ranges c

unfoldable pub is_operator : ℕ → Bool
is_operator c = list_any (λ mark. mark == c) OPERATORS || is_wide_operator c

-- in an operator, where `dots` one that begins with two dots
unfoldable pub operator_part : Bool → ℕ → Bool
operator_part dots c = (dots && c == DOT) || is_operator c

-- between backquotes
unfoldable pub is_quoted_part : ℕ → Bool
is_quoted_part c = not (c == BACKQUOTE) && not (is_line_end c)

-- inside a string, without a meaning of its own
unfoldable pub is_plain : ℕ → Bool
is_plain c = not (c == QUOTE) && not (c == BACKSLASH) && not (is_line_end c)

-- which characters a run goes on with: one row a run
abbrev pub goes_on : Run → ℕ → Bool
goes_on run.Blank = is_blank
goes_on run.Line = λ c. not (is_line_end c)
goes_on run.WordPart = is_word_part
goes_on run.NumberPart = is_number_part
goes_on run.QuotedPart = is_quoted_part
goes_on run.Plain = is_plain

-- what a text outside strings may go on with, by its first character: one row a kind
unfoldable pub front_of : ℕ → Front
front_of c =
    if is_word_start c then front.Word
    else (if is_blank c then front.Blank
    else (if is_ascii_digit c then front.Digit
    else (if is_mark c then front.Mark
    else (if c == DOT then front.Dot
    else (if is_left_bracket c then front.Left
    else (if is_right_bracket c then front.Right
    else (if c == SLASH then front.Slash
    else (if c == QUOTE then front.Quote
    else (if c == POUND then front.Pound
    else (if c == AT then front.At
    else (if c == BACKQUOTE then front.Backquote
    else (if is_operator c then front.Operator
    else front.Other))))))))))))
