-- Where tokens begin and end, and what lies between such places.
use Rattle.std.proofs.Common.{◌≡◌, inl, inr, sym, ap, subst, arith, ◌∙◌, ℕ, ◌+◌, ◌-◌, ◌<◌, List, [], ◌∷◌, take, drop, slice_range}
use Rattle.std.specs.Prelude.{min, slice_index}
use Rattle.std.specs.Str.{IsCharBoundary, IsUtf8, encode_utf8_all}
use Rattle.std.proofs.lemmas.Bool.{cases_lt}
use Rattle.std.proofs.lemmas.List.{get_or-drop, get_or-take}
use Rattle.std.proofs.lemmas.Str.{IsCharBoundary-after_ascii, IsUtf8-between, IsUtf8-nil, byte_from_char}
use Rattle.swift_lexer.specs.declared.token.Class.TheVariants as class
use Rattle.swift_lexer.specs.declared.token.Token.{Token}
use Rattle.swift_lexer.specs.Spellings.{Spells}
use Rattle.swift_lexer.specs.Tiles.{IsTile, bytes_of}

-- what lies between two places is UTF-8, also where the second is not behind the first
pub utf8_between : (text : List ℕ) (from to : ℕ) → IsUtf8 text → IsCharBoundary text from → IsCharBoundary text to → IsUtf8 (slice_range text from to)
utf8_between text from to utf8 begins ends =
    elim (cases_lt to from) [
      | inl past ↦ let none : 0 ≡ to - from = omega (arith, past) in subst (λ n. IsUtf8 (take n (drop from text))) none IsUtf8-nil
      | inr less ↦ IsUtf8-between text from to utf8 less begins ends
    ]

pub lesser_boundary : (text : List ℕ) (one other : ℕ) → IsCharBoundary text one → IsCharBoundary text other → IsCharBoundary text (min one other)
lesser_boundary text one other first second =
    elim (cases_lt other one) [
      | inl less ↦ let is : other ≡ min one other = omega (arith, less) in subst (IsCharBoundary text) is second
      | inr less ↦ let is : one ≡ min one other = omega (arith, less) in subst (IsCharBoundary text) is first
    ]

-- the bytes of a token are those of the text from its start on
byte_of : (text : List ℕ) (token : Token) (k : ℕ) → k < token.end - token.start → slice_index (bytes_of text token) k ≡ slice_index text (token.start + k)
byte_of text token k within =
    get_or-take (token.end - token.start) (drop token.start text) k 0 within ∙ get_or-drop token.start text k 0

first_byte : (text : List ℕ) (token : Token) → IsTile text token → slice_index (bytes_of text token) 0 ≡ slice_index text token.start
first_byte text token tile =
    let same : token.start + 0 ≡ token.start = omega arith in
    byte_of text token 0 (omega (arith, tile.some)) ∙ ap (slice_index text) same

pound_byte : (characters bytes : List ℕ) → encode_utf8_all characters ≡ bytes → Spells class.Pound characters → slice_index bytes 0 ≡ 35
pound_byte [] bytes same spelled = absurd spelled
pound_byte (c ∷ cs) bytes same spelled =
    let is : c ≡ 35 = spelled.0 in byte_from_char bytes (encode_utf8_all cs) c (sym same) (omega (arith, is)) ∙ is

-- the `#` of a word is one byte
pub behind_pound : (text : List ℕ) (token : Token) → IsUtf8 text → IsTile text token → token.class ≡ class.Pound → IsCharBoundary text (token.start + 1)
behind_pound text token utf8 tile is =
    let spelled = tile.spelled in
    let pound = pound_byte spelled.characters (bytes_of text token) spelled.encoded (subst (λ c. Spells c spelled.characters) is spelled.spelled) in
    IsCharBoundary-after_ascii text token.start utf8 (omega (arith, tile.some, tile.within)) (omega (arith, first_byte text token tile, pound))
