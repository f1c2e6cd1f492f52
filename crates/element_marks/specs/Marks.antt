-- What each element of a list is by its own text and by its neighbours: this project's own, after The Swift Programming Language.
use Rattle.std.specs.Prelude.{ℕ, ◌-◌, ◌==◌, nat_lt, List, length, count_by, slice_index, slice_range, Option, Some, None, Bool, true, false, ◌&&◌, ◌||◌, not, if◌then◌else◌, codes}
use Rattle.std.specs.List.{list_any}
use Rattle.std.specs.Str.{bytes_eq}
use Rattle.swift_lexer.specs.declared.token.Class.{Class}
use Rattle.swift_lexer.specs.declared.token.Class.TheVariants as class
use Rattle.swift_lexer.specs.declared.token.Token.{Token}
use Rattle.swift_lexer.specs.Tiles.{bytes_of}
use Rattle.swift_lexer.specs.Trees.{Tree, leaf, nest}
use Rattle.element_marks.specs.declared.words.Keyword.{Keyword}
use Rattle.element_marks.specs.declared.words.Keyword.TheVariants.{Plain}
use Rattle.element_marks.specs.declared.mark.Mark.{Mark}
use Rattle.element_marks.specs.declared.mark.Sort.{Sort}
use Rattle.element_marks.specs.declared.mark.Sort.TheVariants as sort
use Rattle.element_marks.specs.declared.mark.TheConstants.{LINE_FEED, CARRIAGE_RETURN, LESS, GREATER}
use Rattle.element_marks.specs.Words.{keyword_of, is_builtin, is_joining, is_operator_name}

-- a mark of punctuation by its byte
unfoldable pub mark_sort : ℕ → Sort
mark_sort byte =
    if byte == 44 then sort.Comma
    else (if byte == 58 then sort.Colon
    else (if byte == 59 then sort.Semicolon
    else (if byte == 46 then sort.Dot
    else sort.Backslash)))

unfoldable pub operator_sort : List ℕ → Sort
operator_sort bytes = if bytes_eq bytes (codes "=") then sort.Equals else (if bytes_eq bytes (codes "->") then sort.Arrow else sort.Operator)

-- the word behind a `#`
unfoldable pub pound_sort : List ℕ → Sort
pound_sort word = if is_builtin word then sort.BuiltinPound else sort.Pound

unfoldable pub group_sort : ℕ → Sort
group_sort byte = if byte == 40 then sort.Parentheses else (if byte == 91 then sort.Brackets else sort.Braces)

-- one row a class; brackets are no leaves
abbrev pub leaf_sort : Class → List ℕ → Sort
leaf_sort class.Word bytes = sort.Word
leaf_sort class.Quoted bytes = sort.Quoted
leaf_sort class.Number bytes = sort.Number
leaf_sort class.Str bytes = sort.Str
leaf_sort class.Pound bytes = pound_sort (slice_range bytes 1 (length bytes))
leaf_sort class.At bytes = sort.At
leaf_sort class.Punct bytes = mark_sort (slice_index bytes 0)
leaf_sort class.Oper bytes = operator_sort bytes
leaf_sort class.LeftBracket bytes = group_sort (slice_index bytes 0)
leaf_sort class.RightBracket bytes = group_sort (slice_index bytes 0)

abbrev pub leaf_keyword : Class → List ℕ → Keyword
leaf_keyword class.Word bytes = keyword_of bytes
leaf_keyword _ bytes = Plain

abbrev pub is_line_end : ℕ → Bool
is_line_end byte = byte == LINE_FEED || byte == CARRIAGE_RETURN

-- the trivia before the token hold a line's end
unfoldable pub is_first : List ℕ → Token → Bool
is_first text token = list_any is_line_end (slice_range text token.trivia token.start)

-- how often the byte stands in an operator other than `->`
abbrev pub angle_count : ℕ → Sort → List ℕ → ℕ
angle_count byte sort.Operator bytes = count_by (λ b. b == byte) bytes
angle_count byte _ bytes = 0

abbrev pub begins_angle : Sort → List ℕ → Bool
begins_angle sort.Operator bytes = slice_index bytes 0 == LESS
begins_angle _ bytes = false

abbrev pub ends_angle : Sort → List ℕ → Bool
ends_angle sort.Operator bytes = nat_lt 1 (length bytes) && slice_index bytes (length bytes - 1) == LESS
ends_angle _ bytes = false

-- an element that begins with this token and ends there, without its neighbours
unfoldable pub mark_between : List ℕ → Token → ℕ → Mark
mark_between text token end =
    let bytes = bytes_of text token in
    let sort = leaf_sort token.class bytes in
    record {
      sort = sort;
      keyword = leaf_keyword token.class bytes;
      start = token.start;
      end = end;
      first = is_first text token;
      spaced = nat_lt token.trivia token.start;
      opens = angle_count LESS sort bytes;
      closes = angle_count GREATER sort bytes;
      begins_angle = begins_angle sort bytes;
      ends_angle = ends_angle sort bytes;
      joins = false;
      angles = 0;
      modifies = false;
      head = 0;
    }

abbrev pub mark_of : List ℕ → Tree → Mark
mark_of text (leaf token) = mark_between text token token.end
mark_of text (nest left inner right) = mark_between text left right.end

abbrev pub is_punctuation : Sort → Bool
is_punctuation sort.Comma = true
is_punctuation sort.Colon = true
is_punctuation sort.Semicolon = true
is_punctuation sort.Dot = true
is_punctuation sort.Backslash = true
is_punctuation _ = false

-- an operator joins by what stands before it: at the beginning of its list and behind punctuation always, behind `operator` and `func` never
abbrev pub operator_joins : Option Mark → Bool → Bool
operator_joins None spaced = true
operator_joins (Some previous) spaced = not (is_operator_name previous.keyword) && (spaced || is_punctuation previous.sort)

-- by the element before it and its own sort: one row a sort
abbrev pub joins : Option Mark → Mark → Sort → Bool
joins previous mark sort.Comma = true
joins previous mark sort.Colon = true
joins previous mark sort.Dot = true
joins previous mark sort.Backslash = true
joins previous mark sort.Equals = true
joins previous mark sort.Arrow = true
joins previous mark sort.Operator = operator_joins previous mark.spaced
joins previous mark sort.Word = is_joining mark.keyword
joins previous mark _ = false
