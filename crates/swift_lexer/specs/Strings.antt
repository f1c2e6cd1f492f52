-- What stands inside strings and their interpolations: this project's own grammar, after the lexical structure of Swift.
use Rattle.std.specs.Prelude.{ℕ, Bool, List, [], ◌∷◌, Option, Some, None, false, option_map, if◌then◌else◌, ◌==◌, ◌&&◌, not}
use Rattle.std.specs.List.{list_any}
use Rattle.swift_lexer.specs.declared.chars.TheConstants.{QUOTE, BACKSLASH, POUND, LEFT_PARENTHESIS, RIGHT_PARENTHESIS}
use Rattle.swift_lexer.specs.declared.token.LexKind.TheVariants.{UseInInterpolation}
use Rattle.swift_lexer.specs.declared.found.Found.{Found}
use Rattle.swift_lexer.specs.declared.found.Found.TheVariants.{Trivia, Token, Opens, Fails}
use Rattle.swift_lexer.specs.declared.found.Quotes.{Quotes}
use Rattle.swift_lexer.specs.declared.strings.Open.{Open}
use Rattle.swift_lexer.specs.declared.strings.Open.TheVariants.{InString, InParentheses}
use Rattle.swift_lexer.specs.declared.strings.Step.{Step}
use Rattle.swift_lexer.specs.declared.strings.Step.TheVariants as step
use Rattle.swift_lexer.specs.declared.strings.TheConstants.{BUILTIN_WORDS}
use Rattle.swift_lexer.specs.Chars.{is_word_part, is_plain, is_line_end}
use Rattle.swift_lexer.specs.Texts.{starts, begins, behind, after_run, after_marks}
use Rattle.swift_lexer.specs.Fronts.{at_front, Finding}

-- a step, and what stands behind it; for a fault, where it stands
abbrev pub Stepped : Type 0
Stepped = Step × List ℕ

-- how many quotes begin and end a string
abbrev pub quotes_of : Quotes → ℕ
quotes_of quotes = if quotes.triple then 3 else 1

-- behind the pound signs of the string, where they stand here
abbrev pub after_signs : Quotes → Option (List ℕ) → Option (List ℕ)
after_signs quotes None = None
after_signs quotes (Some text) = after_marks POUND quotes.pounds text

-- the quotes and pound signs that end the string, or a quote that is a character of it
abbrev pub closing_by : List ℕ → Option (List ℕ) → Stepped
closing_by rest (Some after) = (step.Ends, after)
closing_by rest None = (step.GoesOn, rest)

unfoldable pub closing : Quotes → List ℕ → List ℕ → Stepped
closing quotes text rest = closing_by rest (after_signs quotes (after_marks QUOTE (quotes_of quotes) text))

-- a line may end only in a string of three quotes
unfoldable pub line_end : Quotes → List ℕ → Option Stepped
line_end quotes rest = if quotes.triple then Some (step.GoesOn, rest) else None

-- the character behind an escape's sign
abbrev pub escaped : Quotes → List ℕ → Option Stepped
escaped quotes [] = None
escaped quotes (c ∷ cs) =
    if c == LEFT_PARENTHESIS then Some (step.Opens InParentheses, cs)
    else (if is_line_end c then line_end quotes cs
    else Some (step.GoesOn, cs))

-- a backslash with the string's pound signs begins an escape; without them it is a character
abbrev pub escape_by : Quotes → List ℕ → Option (List ℕ) → Option Stepped
escape_by quotes rest (Some text) = escaped quotes text
escape_by quotes rest None = Some (step.GoesOn, rest)

unfoldable pub escape : Quotes → List ℕ → Option Stepped
escape quotes rest = escape_by quotes rest (after_marks POUND quotes.pounds rest)

-- inside a string; nothing where it ends without its quotes
unfoldable pub in_string : Quotes → List ℕ → Option Stepped
in_string quotes [] = None
in_string quotes (c ∷ cs) =
    if c == QUOTE then Some (closing quotes (c ∷ cs) cs)
    else (if c == BACKSLASH then escape quotes cs
    else (if is_line_end c then line_end quotes cs
    else Some (step.GoesOn, after_run is_plain cs)))

-- the word stands at the front of the text, and ends there
unfoldable pub begins_word : List ℕ → List ℕ → Bool
begins_word [] text = not (starts is_word_part text)
begins_word (w ∷ word) [] = false
begins_word (w ∷ word) (c ∷ cs) = w == c && begins_word word cs

-- a word that the language has built in
unfoldable pub is_builtin : List ℕ → Bool
is_builtin text = list_any (λ word. begins_word word.now text) BUILTIN_WORDS

-- a token inside parentheses: what opens or closes one, a use of a macro, which has no place here, or any other
unfoldable pub token_inside : List ℕ → List ℕ → Stepped
token_inside text rest =
    if begins LEFT_PARENTHESIS text then (step.Opens InParentheses, rest)
    else (if begins RIGHT_PARENTHESIS text then (step.Ends, rest)
    else (if begins POUND text && not (is_builtin (behind text)) then (step.Fails UseInInterpolation, text)
    else (step.GoesOn, rest)))

-- what is found inside parentheses
abbrev pub inside_found : Found → List ℕ → List ℕ → Stepped
inside_found Trivia text rest = (step.GoesOn, rest)
inside_found (Token class) text rest = token_inside text rest
inside_found (Opens quotes) text rest = (step.Opens (InString quotes), rest)
inside_found (Fails kind) text here = (step.Fails kind, here)

abbrev pub inside_by : List ℕ → Finding → Stepped
inside_by text finding = inside_found finding.0 text finding.1

-- what stands at the front inside a string or inside parentheses of an interpolation
unfoldable pub step_in : Open → List ℕ → Option Stepped
step_in (InString quotes) text = in_string quotes text
step_in InParentheses text = option_map (inside_by text) (at_front text)
