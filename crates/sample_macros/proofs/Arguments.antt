-- The argument of a use stays UTF-8.
use Rattle.std.proofs.Common.{◌≡◌, ℕ, List, Option, Some, None, Ok, Err, sym, refl, subst}
use Rattle.std.specs.List.{All}
use Rattle.std.specs.Option.{option_and_then}
use Rattle.std.specs.Result.{result_ok}
use Rattle.std.specs.Str.{IsUtf8}
use Rattle.swift_lexer.specs.declared.token.Token.{Token}
use Rattle.swift_lexer.specs.Trees.{Forest, none, cons, forest_tokens}
use Rattle.swift_lexer.specs.Tokens.{Outcome, IsLexed}
use Rattle.swift_lexer.specs.Groups.{GroupOutcome, IsGrouped}
use Rattle.swift_lexer.specs.Laws.{GroupsHoldTheTokens}
use Rattle.swift_lexer.specs.Characters.{IsOfCharacters, TokensAreOfCharacters}
use Rattle.plugin_messages.specs.Writable.{WhereSome}
use Rattle.sample_macros.specs.Use.{HasGroups, first_round, text_of, argument_in, HasArgument, HasArgumentWhereSome}
use Rattle.sample_macros.proofs.Pieces.{round_of_characters, inner_utf8}

-- the text of elements that begin and end between characters
text_utf8 : (text : List ℕ) → IsUtf8 text → (elements : Forest) → All (IsOfCharacters text) (forest_tokens elements) → WhereSome IsUtf8 (text_of text elements)
unfolding text_of
text_utf8 text utf8 none all = tt
text_utf8 text utf8 (cons tree elements) all = inner_utf8 text utf8 tree elements all

inside_utf8 : (text : List ℕ) → IsUtf8 text → (elements : Forest) → All (IsOfCharacters text) (forest_tokens elements) → (round : Option Forest) → first_round text elements ≡ round → WhereSome IsUtf8 (option_and_then (text_of text) round)
inside_utf8 text utf8 elements all None is = tt
inside_utf8 text utf8 elements all (Some inner) is = text_utf8 text utf8 inner (round_of_characters text elements all inner is)

accepted_groups : (text : List ℕ) (tokens : List Token) (elements : Forest) (outcome : GroupOutcome) → Some elements ≡ result_ok outcome → IsGrouped text tokens outcome → IsGrouped text tokens (Ok elements)
accepted_groups text tokens elements (Ok others) is grouping =
    let same : others ≡ elements = cc in subst (λ row. IsGrouped text tokens (Ok row)) same grouping
accepted_groups text tokens elements (Err fault) is grouping = cc

groups_utf8 : (text : List ℕ) (outcome : Outcome) (elements : Option Forest) → GroupsHoldTheTokens → TokensAreOfCharacters → IsUtf8 text → IsLexed text outcome → HasGroups text outcome elements → WhereSome IsUtf8 (option_and_then (argument_in text) elements)
unfolding argument_in
groups_utf8 text outcome None hold bounds utf8 lexed groups = tt
groups_utf8 text (Err fault) (Some elements) hold bounds utf8 lexed groups = cc
groups_utf8 text (Ok tokens) (Some elements) hold bounds utf8 lexed groups =
    inside_utf8 text utf8 elements
    (subst (All (IsOfCharacters text)) (sym (hold text tokens elements (accepted_groups text tokens elements groups.0 groups.2 groups.1)).0) (bounds text tokens lexed))
    (first_round text elements) refl

pub argument_utf8 : GroupsHoldTheTokens → TokensAreOfCharacters → (source : List ℕ) (argument : Option (List ℕ)) → IsUtf8 source → HasArgument source argument → WhereSome IsUtf8 argument
argument_utf8 hold bounds source argument utf8 has = subst (WhereSome IsUtf8) (sym has.is) (groups_utf8 source has.has.tokens has.elements hold bounds utf8 has.has.lexed has.has.groups)

pub argument_utf8_where_some : GroupsHoldTheTokens → TokensAreOfCharacters → (source : Option (List ℕ)) (argument : Option (List ℕ)) → WhereSome IsUtf8 source → HasArgumentWhereSome source argument → WhereSome IsUtf8 argument
argument_utf8_where_some hold bounds None argument utf8 has = subst (WhereSome IsUtf8) (sym has) tt
argument_utf8_where_some hold bounds (Some source) argument utf8 has = argument_utf8 hold bounds source argument utf8 has
