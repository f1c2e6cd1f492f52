-- No token begins or ends inside a character: tokens and trivia are whole characters, and they tile the text.
use Rattle.std.proofs.Common.{◌≡◌, ℕ, ◌+◌, ◌-◌, ◌≤◌, List, [], ◌∷◌, ◌++◌, drop, slice_range, Ok, sym, refl, ap, subst, arith, ◌∙◌, append_assoc}
use Rattle.std.specs.List.{All}
use Rattle.std.specs.Str.{IsUtf8, encode_utf8_all}
use Rattle.std.proofs.Math.Utf8.{encode}
use Rattle.std.proofs.lemmas.List.{take-append-drop, drop-drop}
use Rattle.std.proofs.lemmas.List.Elements.{All-nil, All-cons, All-head, All-tail}
use Rattle.std.proofs.lemmas.Str.{IsCharBoundary-from_drop, IsUtf8-past_char}
use Rattle.swift_lexer.specs.declared.token.Token.{Token}
use Rattle.swift_lexer.specs.Tokens.{Outcome, IsLexed, ill_formed, well_formed}
use Rattle.swift_lexer.specs.Tiles.{IsTile, Chained}
use Rattle.swift_lexer.specs.Characters.{IsOfCharacters, TokensAreOfCharacters, AcceptedTextsAreUtf8}
use Rattle.swift_lexer.proofs.Tiling.{tokens_tile}

-- what stands behind whole characters of a UTF-8 text is UTF-8
behind_characters : (front rest : List ℕ) → IsUtf8 (encode_utf8_all front ++ rest) → IsUtf8 rest
behind_characters [] rest utf8 = utf8
behind_characters (c ∷ cs) rest utf8 =
    behind_characters cs rest (IsUtf8-past_char (encode_utf8_all (c ∷ cs) ++ rest) (encode_utf8_all cs ++ rest) c utf8 (append_assoc (encode c) (encode_utf8_all cs) rest))

behind_slice : (text characters : List ℕ) (from to : ℕ) → from ≤ to → encode_utf8_all characters ≡ slice_range text from to → IsUtf8 (drop from text) → IsUtf8 (drop to text)
behind_slice text characters from to ordered encoded utf8 =
    let whole : from + (to - from) ≡ to = omega arith in
    let split : drop from text ≡ encode_utf8_all characters ++ drop to text =
    sym (take-append-drop (to - from) (drop from text))
    ∙ (λ i. sym encoded i ++ (drop-drop (to - from) from text ∙ ap (λ n. drop n text) whole) i) in
    behind_characters characters (drop to text) (subst IsUtf8 split utf8)

of_characters_from : (text : List ℕ) (at : ℕ) (tokens : List Token) → IsUtf8 (drop at text) → All (IsTile text) tokens → Chained at tokens → All (IsOfCharacters text) tokens
of_characters_from text at [] utf8 tiles chained = All-nil (IsOfCharacters text)
of_characters_from text at (token ∷ tokens) utf8 tiles chained =
    let tile = All-head (IsTile text) token tokens tiles in
    let first : IsUtf8 (drop token.trivia text) = subst (λ n. IsUtf8 (drop n text)) (sym chained.0) utf8 in
    let start : IsUtf8 (drop token.start text) = behind_slice text tile.blank.characters token.trivia token.start tile.trivia tile.blank.encoded first in
    let end : IsUtf8 (drop token.end text) = behind_slice text tile.spelled.characters token.start token.end (omega (arith, tile.some)) tile.spelled.encoded start in
    let is : IsOfCharacters text token = record {
      start = IsCharBoundary-from_drop text token.start (omega (arith, tile.some, tile.within)) start;
      end = IsCharBoundary-from_drop text token.end tile.within end;
    } in
    All-cons (IsOfCharacters text) token tokens is (of_characters_from text token.end tokens end (All-tail (IsTile text) token tokens tiles) chained.1)

lexed_utf8 : (text : List ℕ) (outcome : Outcome) → IsLexed text outcome → (tokens : List Token) → outcome ≡ Ok tokens → IsUtf8 text
lexed_utf8 text outcome (ill_formed valid upto) tokens accepted = cc
lexed_utf8 text outcome (well_formed utf8 lexed) tokens accepted = utf8

pub accepted_texts_are_utf8 : AcceptedTextsAreUtf8
accepted_texts_are_utf8 text tokens lexed = lexed_utf8 text (Ok tokens) lexed tokens refl

pub tokens_are_of_characters : TokensAreOfCharacters
tokens_are_of_characters text tokens lexed =
    let tiles = tokens_tile text tokens lexed in
    of_characters_from text 0 tokens (accepted_texts_are_utf8 text tokens lexed) tiles.each tiles.chained
