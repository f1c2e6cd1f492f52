-- What holds of an accepted text, of its tokens, and of its groups.
use Rattle.std.proofs.Common.{◌≡◌, inl, inr, sym, subst, ℕ, ◌≤◌, List, [], ◌∷◌, length, Ok, Err}
use Rattle.std.specs.Prelude.{nat_lt}
use Rattle.std.specs.List.{AllByRecursion}
use Rattle.std.specs.Str.{IsUtf8}
use Rattle.std.proofs.lemmas.Bool.{ltb-false}
use Rattle.std.proofs.lemmas.List.Elements.{recursion_from_All}
use Rattle.swift_lexer.specs.declared.token.Token.{Token}
use Rattle.swift_lexer.specs.Characters.{IsOfCharacters}
use Rattle.swift_lexer.specs.Tokens.{Outcome, IsLexed}
use Rattle.swift_lexer.specs.Tiles.{IsTile}
use Rattle.swift_lexer.specs.Trees.{Forest}
use Rattle.swift_lexer.specs.Groups.{GroupOutcome, IsGrouped}
use Rattle.swift_lexer.specs.Bracketing.{groups_of}
use Rattle.swift_lexer.proofs.Characters.{accepted_texts_are_utf8, tokens_are_of_characters}
use Rattle.swift_lexer.proofs.Reaching.{groups_hold_the_tokens}
use Rattle.swift_lexer.proofs.SomeGrouping.{some_group_outcome}
use Rattle.swift_lexer.proofs.SomeOutcome.{some_token_outcome}
use Rattle.swift_lexer.proofs.Tiling.{tokens_tile}
use Rattle.decl_parser.specs.declared.fault.ParseKind.TheVariants.{SourceTooLarge}
use Rattle.decl_parser.specs.declared.parse.TheConstants.{LONGEST_SOURCE}
use Rattle.decl_parser.specs.Faults.{fault}
use Rattle.decl_parser.specs.Outline.{elements_of, grouped, lexed, read_groups, read_tokens, tokens_of}
use Rattle.decl_parser.proofs.Accepting.{then_ok, if_ok}
use Rattle.expansion_model.specs.Buffers.{BufferSeen, IsSound}
use Rattle.expansion_model.proofs.Shapes.{shaped}
use Rattle.expansion_model.proofs.MarkBoundaries.{IsPlaced, IsForestPlaced, forest_placed}

lexed_ok : (outcome : Outcome) (tokens : List Token) → lexed outcome ≡ Ok tokens → outcome ≡ Ok tokens
lexed_ok (Ok others) tokens is = cc
lexed_ok (Err found) tokens is = cc

grouped_ok : (outcome : GroupOutcome) (forest : Forest) → grouped outcome ≡ Ok forest → outcome ≡ Ok forest
grouped_ok (Ok other) forest is = cc
grouped_ok (Err found) forest is = cc

record AreTokens (text : List ℕ) (tokens : List Token) : Type 0 where
  short : length text ≤ 4194304
  lexed : IsLexed text (Ok tokens)

are_tokens : (text : List ℕ) (tokens : List Token) → read_tokens text ≡ Ok tokens → AreTokens text tokens
unfolding read_tokens tokens_of
are_tokens text tokens is =
    elim (if_ok (nat_lt LONGEST_SOURCE (length text)) (Err (fault 0 SourceTooLarge)) (lexed (tokens_of text)) tokens is) [
      | inl large ↦ cc
      | inr fits ↦ record { short = ltb-false LONGEST_SOURCE (length text) fits.0; lexed = subst (IsLexed text) (lexed_ok (tokens_of text) tokens fits.1) (some_token_outcome text).1 }
    ]

both_each : (text : List ℕ) (tokens : List Token) → AllByRecursion (IsTile text) tokens → AllByRecursion (IsOfCharacters text) tokens → AllByRecursion (IsPlaced text) tokens
both_each text [] tiles placed = tt
both_each text (token ∷ tokens) tiles placed = ((tiles.0, placed.0), both_each text tokens tiles.1 placed.1)

pub record IsAccepted (text : List ℕ) (forest : Forest) : Type 0 where
  pub short : length text ≤ 4194304
  pub utf8 : IsUtf8 text
  pub placed : IsForestPlaced text forest

pub accepted : (text : List ℕ) (forest : Forest) → elements_of text ≡ Ok forest → IsAccepted text forest
unfolding elements_of read_groups
accepted text forest is =
    let read = then_ok (read_tokens text) (read_groups text) forest is in
    let tokens = read.0 in
    let are = are_tokens text tokens read.1 in
    let held = groups_hold_the_tokens text tokens forest (subst (IsGrouped text tokens) (grouped_ok (groups_of text tokens) forest read.2) (some_group_outcome text tokens)) in
    let each : AllByRecursion (IsPlaced text) tokens = both_each text tokens (recursion_from_All (IsTile text) tokens (tokens_tile text tokens are.lexed).each) (recursion_from_All (IsOfCharacters text) tokens (tokens_are_of_characters text tokens are.lexed)) in
    record { short = are.short; utf8 = accepted_texts_are_utf8 text tokens are.lexed; placed = forest_placed text forest (subst (AllByRecursion (IsPlaced text)) (sym held.0) each) }

-- a text that has an outline is short enough to be read
pub sound_is_short : (buffer : BufferSeen) → IsSound buffer → length buffer.outline.text ≤ 4194304
sound_is_short buffer is =
    let made = shaped buffer.outline.text buffer.outline.shape buffer.outline (sym is) in
    (accepted buffer.outline.text made.forest made.elements).short
