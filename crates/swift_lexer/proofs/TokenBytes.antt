-- The bytes of a token, by its class.
use Rattle.std.proofs.Common.{◌≡◌, ℕ, ◌<◌, true, List, [], ◌∷◌, ◌++◌, length, slice_index, sym, refl, ap, subst, arith, ◌∙◌}
use Rattle.std.specs.Str.{encode_utf8_all}
use Rattle.std.proofs.lemmas.Bool.Decides.{nat_tests}
use Rattle.std.proofs.lemmas.Str.{length-le-encodes, encode_ascii}
use Rattle.swift_lexer.specs.Bytes.{is_left_bracket, is_right_bracket}
use Rattle.swift_lexer.specs.declared.token.Class.TheVariants.{LeftBracket, RightBracket}
use Rattle.swift_lexer.specs.Spellings.{IsToken, Spells}
use Rattle.swift_lexer.specs.declared.token.Class.{Class}
use Rattle.swift_lexer.specs.Laws.{TokenBytes}

some_characters : (class : Class) (characters : List ℕ) → Spells class characters → 0 < length characters
some_characters class [] spelled = absurd spelled
some_characters class (c ∷ cs) spelled = omega arith

pub token_length : (class : Class) (bytes : List ℕ) → IsToken class bytes → 0 < length bytes
token_length class bytes token =
    omega (arith, some_characters class token.characters token.spelled, length-le-encodes token.characters, ap length token.encoded)

-- a bracket is one byte
left_small : (c : ℕ) → is_left_bracket c ≡ true → c < 128
left_small c is = grind (arith, nat_tests)

right_small : (c : ℕ) → is_right_bracket c ≡ true → c < 128
right_small c is = grind (arith, nat_tests)

one_byte : (c : ℕ) (cs bytes : List ℕ) → c < 128 → cs ≡ [] → encode_utf8_all (c ∷ cs) ≡ bytes → c ∷ [] ≡ bytes
one_byte c cs bytes small none encoded =
    ap (λ l. l ++ []) (sym (encode_ascii c small)) ∙ ap (λ l. encode_utf8_all (c ∷ l)) (sym none) ∙ encoded

left_bytes : (characters bytes : List ℕ) → encode_utf8_all characters ≡ bytes → Spells LeftBracket characters → (length bytes ≡ 1) × (is_left_bracket (slice_index bytes 0) ≡ true)
left_bytes [] bytes encoded spelled = absurd spelled
left_bytes (c ∷ cs) bytes encoded spelled =
    subst (λ l. (length l ≡ 1) × (is_left_bracket (slice_index l 0) ≡ true)) (one_byte c cs bytes (left_small c spelled.0) spelled.1 encoded) (refl, spelled.0)

right_bytes : (characters bytes : List ℕ) → encode_utf8_all characters ≡ bytes → Spells RightBracket characters → (length bytes ≡ 1) × (is_right_bracket (slice_index bytes 0) ≡ true)
right_bytes [] bytes encoded spelled = absurd spelled
right_bytes (c ∷ cs) bytes encoded spelled =
    subst (λ l. (length l ≡ 1) × (is_right_bracket (slice_index l 0) ≡ true)) (one_byte c cs bytes (right_small c spelled.0) spelled.1 encoded) (refl, spelled.0)

pub token_bytes : TokenBytes
token_bytes class bytes token = (
  token_length class bytes token,
  λ is. left_bytes token.characters bytes token.encoded (subst (λ c. Spells c token.characters) is token.spelled),
  λ is. right_bytes token.characters bytes token.encoded (subst (λ c. Spells c token.characters) is token.spelled),
)
