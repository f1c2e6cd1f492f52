-- What an outcome that is accepted comes from.
use Rattle.std.proofs.Common.{◌≡◌, ◌⊎◌, inl, inr, refl, sym, ◌∙◌, ℕ, List, length, Result, Ok, Err, Bool, true, false, if◌then◌else◌, subst}
use Rattle.std.specs.Prelude.{nat_lt}
use Rattle.swift_lexer.specs.declared.token.Token.{Token}
use Rattle.swift_lexer.specs.Tokens.{Outcome, IsLexed}
use Rattle.swift_lexer.specs.Tiles.{TokensTile}
use Rattle.swift_lexer.specs.Trees.{Forest, forest_tokens}
use Rattle.swift_lexer.specs.Groups.{GroupOutcome}
use Rattle.swift_lexer.specs.Bracketing.{groups_of}
use Rattle.swift_lexer.proofs.SomeOutcome.{some_token_outcome}
use Rattle.swift_lexer.proofs.Tiling.{tokens_tile}
use Rattle.swift_tree.specs.declared.outline.Shape.{Shape}
use Rattle.swift_tree.specs.declared.outline.Shape.TheVariants as shape
use Rattle.swift_tree.specs.Outlines.{OutlineSeen}
use Rattle.element_marks.specs.Answers.{and_then}
use Rattle.decl_parser.specs.declared.fault.ParseFault.{ParseFault}
use Rattle.decl_parser.specs.declared.fault.ParseKind.TheVariants.{SourceTooLarge}
use Rattle.decl_parser.specs.declared.parse.TheConstants.{LONGEST_SOURCE}
use Rattle.decl_parser.specs.Faults.{fault}
use Rattle.decl_parser.specs.Fragments.{by_shape}
use Rattle.decl_parser.specs.Outline.{IsOutline, outline, outline_by, allowed, elements_of, grouped, lexed, read_groups, read_tokens, tokens_of}
use Rattle.decl_parser.specs.Laws.{OneOutline, SomeOutline, OutlineKeepsTheText, AcceptedTextsTile}

-- both steps were accepted
pub then_ok : {A B F : Type 0} (first : Result A F) (next : A → Result B F) (value : B) → and_then first next ≡ Ok value → (one : A) × (first ≡ Ok one) × (next one ≡ Ok value)
then_ok (Ok one) next value is = (one, refl, is)
then_ok (Err found) next value is = cc

pub if_ok : {A F : Type 0} (test : Bool) (yes_ no_ : Result A F) (value : A) → (if test then yes_ else no_) ≡ Ok value → ((test ≡ true) × (yes_ ≡ Ok value)) ⊎ ((test ≡ false) × (no_ ≡ Ok value))
if_ok true yes_ no_ value is = inl (refl, is)
if_ok false yes_ no_ value is = inr (refl, is)

pub ok_same : {A F : Type 0} (one other : A) → (let left : Result A F = Ok one in left ≡ Ok other) → one ≡ other
ok_same one other is = cc

lexed_ok : (outcome : Outcome) (tokens : List Token) → lexed outcome ≡ Ok tokens → outcome ≡ Ok tokens
lexed_ok (Ok others) tokens is = cc
lexed_ok (Err found) tokens is = cc

grouped_ok : (outcome : GroupOutcome) (forest : Forest) → grouped outcome ≡ Ok forest → outcome ≡ Ok forest
grouped_ok (Ok other) forest is = cc
grouped_ok (Err found) forest is = cc

-- tokens that are read are those of the text
tokens_lexed : (text : List ℕ) (tokens : List Token) → read_tokens text ≡ Ok tokens → IsLexed text (Ok tokens)
unfolding read_tokens tokens_of
tokens_lexed text tokens is =
    elim (if_ok (nat_lt LONGEST_SOURCE (length text)) (Err (fault 0 SourceTooLarge)) (lexed (tokens_of text)) tokens is) [
      | inl large ↦ cc
      | inr fits ↦ subst (IsLexed text) (lexed_ok (tokens_of text) tokens fits.1) (some_token_outcome text).1
    ]

pub tokens_read_tile : (text : List ℕ) (tokens : List Token) → read_tokens text ≡ Ok tokens → TokensTile text tokens
tokens_read_tile text tokens is = tokens_tile text tokens (tokens_lexed text tokens is)

-- an accepted text has tokens and groups, from which its outline comes
pub record Parsed (text : List ℕ) (shape : Shape) (seen : OutlineSeen) : Type 0 where
  pub tokens : List Token
  pub forest : Forest
  pub read : read_tokens text ≡ Ok tokens
  pub grouped : groups_of text tokens ≡ Ok forest
  pub shaped : by_shape text shape forest ≡ Ok seen

pub parsed : (text : List ℕ) (shape : Shape) (seen : OutlineSeen) → IsOutline text shape (Ok seen) → Parsed text shape seen
unfolding outline elements_of read_groups
parsed text shape seen is =
    let outer = then_ok (elements_of text) (outline_by text shape) seen (sym is) in
    let inner = then_ok (read_tokens text) (read_groups text) outer.0 outer.1 in
    let words = then_ok (allowed text shape (forest_tokens outer.0)) (λ fine. by_shape text shape outer.0) seen outer.2 in
    record { tokens = inner.0; forest = outer.0; read = inner.1; grouped = grouped_ok (groups_of text inner.0) outer.0 inner.2; shaped = words.2 }

pub one_outline : OneOutline
one_outline text shape one other is also = is ∙ sym also

pub some_outline : SomeOutline
some_outline text shape = (outline text shape, refl)

pub accepted_texts_tile : AcceptedTextsTile
accepted_texts_tile text shape seen is =
    let read = parsed text shape seen is in
    (read.tokens, read.read, tokens_read_tile text read.tokens read.read)

abbrev Keeps : List ℕ → Shape → OutlineSeen → Type 0
Keeps text shape seen = (seen.text ≡ text) × (seen.shape ≡ shape)

keeps_then : {A : Type 0} (text : List ℕ) (shape : Shape) (first : Result A ParseFault) (built : A → OutlineSeen) (seen : OutlineSeen) → ((one : A) → Keeps text shape (built one)) → and_then first (λ one. Ok (built one)) ≡ Ok seen → Keeps text shape seen
keeps_then text shape (Ok one) built seen each is = subst (Keeps text shape) (ok_same {F = ParseFault} (built one) seen is) (each one)
keeps_then text shape (Err found) built seen each is = cc

keeps : (text : List ℕ) (shape : Shape) (forest : Forest) (seen : OutlineSeen) → by_shape text shape forest ≡ Ok seen → Keeps text shape seen
keeps text shape.File forest seen is = keeps_then text shape.File _ _ seen (λ one. (refl, refl)) is
keeps text shape.Items forest seen is = keeps_then text shape.Items _ _ seen (λ one. (refl, refl)) is
keeps text shape.Attributes forest seen is = keeps_then text shape.Attributes _ _ seen (λ one. (refl, refl)) is
keeps text shape.Accessors forest seen is = keeps_then text shape.Accessors _ _ seen (λ one. (refl, refl)) is
keeps text shape.Expression forest seen is = keeps_then text shape.Expression _ _ seen (λ one. (refl, refl)) is

pub outline_keeps_the_text : OutlineKeepsTheText
outline_keeps_the_text text shape seen is = keeps text shape (parsed text shape seen is).forest seen (parsed text shape seen is).shaped
