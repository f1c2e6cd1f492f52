-- What a macro is given with its use. This project's own, after SE-0382.
use Rattle.std.specs.Prelude.{◌≡◌, ℕ, ◌==◌, nat_le, if◌then◌else◌, Bool, Option, Some, None, option_and_then, Ok, Err, List, length, slice_index, slice_range}
use Rattle.std.specs.Result.{result_ok}
use Rattle.swift_lexer.specs.declared.token.Token.{Token}
use Rattle.swift_lexer.specs.Tokens.{Outcome, IsLexed}
use Rattle.swift_lexer.specs.Groups.{GroupOutcome, IsGrouped}
use Rattle.swift_lexer.specs.Trees.{Tree, leaf, nest, Forest, none, cons}

-- a text that isn't too long to be read
abbrev pub readable : List ℕ → Option (List ℕ)
readable text = if nat_le (length text) 4194304 then Some text else None

-- the elements of a text by the outcome of its tokens: there are none where its tokens or brackets are refused
abbrev pub HasGroups : List ℕ → Outcome → Option Forest → Type 0
HasGroups text (Err fault) elements = elements ≡ None
HasGroups text (Ok tokens) elements = (outcome : GroupOutcome) × IsGrouped text tokens outcome × (elements ≡ result_ok outcome)

-- The elements of a text, where its tokens and brackets are accepted.
pub record HasElements (text : List ℕ) (elements : Option Forest) : Type 0 where
  pub tokens : Outcome
  pub lexed : IsLexed text tokens
  pub groups : HasGroups text tokens elements

-- `(`
abbrev pub is_round : List ℕ → Token → Bool
is_round text left = slice_index text left.start == 40

-- what stands in the first group in round brackets
unfoldable pub first_round : List ℕ → Forest → Option Forest
first_round text none = None
first_round text (cons (leaf token) elements) = first_round text elements
first_round text (cons (nest left inner right) elements) = if is_round text left then Some inner else first_round text elements

-- where an element begins and ends
abbrev pub start_of : Tree → ℕ
start_of (leaf token) = token.start
start_of (nest left inner right) = left.start

abbrev pub end_of : Tree → ℕ
end_of (leaf token) = token.end
end_of (nest left inner right) = right.end

unfoldable pub end_of_last : ℕ → Forest → ℕ
end_of_last end none = end
end_of_last end (cons tree elements) = end_of_last (end_of tree) elements

-- the text from the first token of the elements to their last
unfoldable pub text_of : List ℕ → Forest → Option (List ℕ)
text_of text none = None
text_of text (cons tree elements) = Some (slice_range text (start_of tree) (end_of_last (end_of tree) elements))

-- the argument of a use: the text in its first round brackets, from the first token to the last
unfoldable pub argument_in : List ℕ → Forest → Option (List ℕ)
argument_in text elements = option_and_then (text_of text) (first_round text elements)

-- The argument of the use with this source, where it has one.
pub record HasArgument (source : List ℕ) (argument : Option (List ℕ)) : Type 0 where
  pub elements : Option Forest
  pub has : HasElements source elements
  pub is : argument ≡ option_and_then (argument_in source) elements

-- the same of a source that may not be there
abbrev pub HasArgumentWhereSome : Option (List ℕ) → Option (List ℕ) → Type 0
HasArgumentWhereSome None argument = argument ≡ None
HasArgumentWhereSome (Some source) argument = HasArgument source argument
