-- The one outcome of a text's tokens and of their brackets.
use Rattle.std.proofs.Common.{◌≡◌, ◌<◌, ◌≤◌, ◌∙◌, ap, sym, ℕ, List, length, Ok, Err, Bool, if◌then◌else◌}
use Rattle.std.proofs.lemmas.Bool.{le-ltb, lt-ltb}
use Rattle.swift_lexer.specs.declared.token.Token.{Token}
use Rattle.swift_lexer.specs.Tokens.{Outcome, IsLexed}
use Rattle.swift_lexer.specs.Groups.{GroupOutcome, IsGrouped}
use Rattle.swift_lexer.proofs.OneOutcome.{one_token_outcome}
use Rattle.swift_lexer.proofs.SomeOutcome.{some_token_outcome}
use Rattle.swift_lexer.proofs.OneGrouping.{one_group_outcome}
use Rattle.decl_parser.specs.declared.parse.TheConstants.{LONGEST_SOURCE}
use Rattle.decl_parser.specs.declared.fault.ParseKind.TheVariants.{SourceTooLarge}
use Rattle.decl_parser.specs.Faults.{fault}
use Rattle.swift_lexer.specs.Bracketing.{groups_of}
use Rattle.swift_lexer.specs.Reads.{ReadsAs}
use Rattle.swift_lexer.proofs.SomeGrouping.{some_group_outcome}
use Rattle.swift_lexer.specs.Trees.{Forest, forest_tokens}
use Rattle.element_marks.specs.Answers.{and_then}
use Rattle.decl_parser.specs.Outline.{elements_of, tokens_of, lexed, grouped, read_tokens, read_groups}

the_tokens : (text : List ℕ) (outcome : Outcome) → IsLexed text outcome → outcome ≡ tokens_of text
unfolding tokens_of
the_tokens text outcome is = one_token_outcome text outcome (tokens_of text) is (some_token_outcome text).1

pub too_long : (text : List ℕ) → LONGEST_SOURCE < length text → Err (fault 0 SourceTooLarge) ≡ read_tokens text
unfolding read_tokens
too_long text long = sym (ap (λ (b : Bool). if b then Err (fault 0 SourceTooLarge) else lexed (tokens_of text)) (lt-ltb LONGEST_SOURCE (length text) long))

pub tokens_read : (text : List ℕ) (outcome : Outcome) → length text ≤ LONGEST_SOURCE → IsLexed text outcome → lexed outcome ≡ read_tokens text
unfolding read_tokens
tokens_read text outcome short is = ap lexed (the_tokens text outcome is) ∙ sym (ap (λ (b : Bool). if b then Err (fault 0 SourceTooLarge) else lexed (tokens_of text)) (le-ltb LONGEST_SOURCE (length text) short))

pub groups_read : (text : List ℕ) (tokens : List Token) (outcome : GroupOutcome) → IsGrouped text tokens outcome → grouped outcome ≡ read_groups text tokens
unfolding read_groups
groups_read text tokens outcome is = ap grouped (one_group_outcome text tokens outcome (groups_of text tokens) is (some_group_outcome text tokens))

-- a text without a fault
pub elements_read : (text : List ℕ) (forest : Forest) → length text ≤ LONGEST_SOURCE → ReadsAs text forest → Ok forest ≡ elements_of text
unfolding elements_of
elements_read text forest short read =
    groups_read text (forest_tokens forest) (Ok forest) read.grouped
    ∙ ap (λ r. and_then r (read_groups text)) (tokens_read text (Ok (forest_tokens forest)) short read.lexed)
