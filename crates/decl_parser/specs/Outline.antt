-- The outline of a text, or its first fault: this project's own.
use Rattle.std.specs.Prelude.{◌≡◌, ℕ, ◌-◌, nat_lt, List, [], ◌∷◌, drop, length, slice_range, Result, Ok, Err, if◌then◌else◌}
use Rattle.swift_lexer.specs.declared.token.Class.{Class}
use Rattle.swift_lexer.specs.declared.token.Class.TheVariants.{Word, Quoted}
use Rattle.swift_lexer.specs.declared.token.Token.{Token}
use Rattle.swift_lexer.specs.Tokens.{Outcome}
use Rattle.swift_lexer.specs.Trees.{Forest, forest_tokens}
use Rattle.swift_lexer.specs.Groups.{GroupOutcome}
use Rattle.swift_lexer.proofs.SomeOutcome.{some_token_outcome}
use Rattle.swift_tree.specs.declared.outline.Shape.{Shape}
use Rattle.swift_tree.specs.declared.outline.Shape.TheVariants as shape
use Rattle.swift_tree.specs.Outlines.{OutlineSeen}
use Rattle.decl_parser.specs.declared.fault.ParseFault.{ParseFault}
use Rattle.decl_parser.specs.declared.fault.ParseKind.TheVariants.{SourceTooLarge, ReservedWord}
use Rattle.decl_parser.specs.declared.parse.TheConstants.{LONGEST_SOURCE}
use Rattle.decl_parser.specs.Faults.{fault, lex_kind, group_kind}
use Rattle.element_marks.specs.Answers.{and_then}
use Rattle.element_marks.specs.Words.{is_reserved}
use Rattle.decl_parser.specs.Fragments.{by_shape}
use Rattle.swift_lexer.specs.Bracketing.{groups_of}

abbrev pub OutlineOutcome : Type 0
OutlineOutcome = Result OutlineSeen ParseFault

-- the one outcome of a text's tokens
unfoldable pub tokens_of : List ℕ → Outcome
tokens_of text = (some_token_outcome text).0

-- a name's own bytes; other tokens have none
abbrev pub name_bytes : List ℕ → Class → Token → List ℕ
name_bytes text Word token = slice_range text token.start token.end
name_bytes text Quoted token = drop 1 (slice_range text token.start (token.end - 1))
name_bytes text _ token = []

-- no word of the text is one that only macros make
abbrev pub unreserved : List ℕ → List Token → Result (Unit {0}) ParseFault
unreserved text [] = Ok tt
unreserved text (token ∷ tokens) =
    if is_reserved (name_bytes text token.class token) then Err (fault token.start ReservedWord) else unreserved text tokens

-- only a file is looked through for reserved words
abbrev pub allowed : List ℕ → Shape → List Token → Result (Unit {0}) ParseFault
allowed text shape.File tokens = unreserved text tokens
allowed text _ tokens = Ok tt

abbrev pub lexed : Outcome → Result (List Token) ParseFault
lexed (Ok tokens) = Ok tokens
lexed (Err found) = Err (fault found.at (lex_kind found.kind))

abbrev pub grouped : GroupOutcome → Result Forest ParseFault
grouped (Ok forest) = Ok forest
grouped (Err found) = Err (fault found.at (group_kind found.kind))

-- the tokens of a text, or its first fault up to there
unfoldable pub read_tokens : List ℕ → Result (List Token) ParseFault
read_tokens text = if nat_lt LONGEST_SOURCE (length text) then Err (fault 0 SourceTooLarge) else lexed (tokens_of text)

-- the groups of tokens, or the first fault of their brackets
unfoldable pub read_groups : List ℕ → List Token → Result Forest ParseFault
read_groups text tokens = grouped (groups_of text tokens)

-- the elements of a text, or the first fault of its length, its tokens, and then its brackets
unfoldable pub elements_of : List ℕ → Result Forest ParseFault
elements_of text = and_then (read_tokens text) (read_groups text)

abbrev pub outline_by : List ℕ → Shape → Forest → OutlineOutcome
outline_by text shape forest = and_then (allowed text shape (forest_tokens forest)) (λ fine. by_shape text shape forest)

-- the outline of a text, or its first fault: by its length, its tokens, its brackets, its words, its declarations
unfoldable pub outline : List ℕ → Shape → OutlineOutcome
outline text shape = and_then (elements_of text) (outline_by text shape)

abbrev pub IsOutline : List ℕ → Shape → OutlineOutcome → Type 0
IsOutline text shape outcome = outcome ≡ outline text shape

-- a source that is read
abbrev pub Accepted : List ℕ → Type 0
Accepted text = (seen : OutlineSeen) × IsOutline text shape.File (Ok seen)
