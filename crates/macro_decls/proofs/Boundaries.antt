-- Where tokens begin and end, and what lies between such places.
use Rattle.std.proofs.Common.{◌≡◌, inl, inr, refl, sym, ap, subst, arith, ◌∙◌, ℕ, zero, suc, ◌+◌, ◌-◌, ◌<◌, List, [], ◌∷◌, ◌++◌, length, take, drop, slice_range, Bool, true, false, if◌then◌else◌}
use Rattle.std.specs.Prelude.{slice_index}
use Rattle.std.specs.Str.{IsCharBoundary, IsUtf8, encode_utf8_all}
use Rattle.std.proofs.lemmas.Bool.{cases_lt, eqb-true}
use Rattle.std.proofs.lemmas.List.{drop-drop, drop-take, get_or-drop, get_or-take, get_or_push, length-append, length-drop, length-take}
use Rattle.std.proofs.lemmas.Str.{IsCharBoundary-after_ascii, IsCharBoundary-before_ascii, IsUtf8-between, IsUtf8-nil, encode_ascii, encodes-append}
use Rattle.swift_lexer.specs.declared.chars.TheConstants.{POUND, QUOTE}
use Rattle.swift_lexer.specs.declared.token.Class.TheVariants as class
use Rattle.swift_lexer.specs.declared.token.Token.{Token}
use Rattle.swift_lexer.specs.Spellings.{IsString, Spells}
use Rattle.swift_lexer.specs.Strings.{quotes_of}
use Rattle.swift_lexer.specs.Texts.{times}
use Rattle.swift_lexer.specs.Tiles.{IsTile, bytes_of}
use Rattle.macro_decls.specs.External.{begins_with_quote}

-- what lies between two places is UTF-8, also where the second is not behind the first
pub utf8_between : (text : List ℕ) (from to : ℕ) → IsUtf8 text → IsCharBoundary text from → IsCharBoundary text to → IsUtf8 (slice_range text from to)
utf8_between text from to utf8 begins ends =
    elim (cases_lt to from) [
      | inl past ↦ let none : 0 ≡ to - from = omega (arith, past) in subst (λ n. IsUtf8 (take n (drop from text))) none IsUtf8-nil
      | inr less ↦ IsUtf8-between text from to utf8 less begins ends
    ]

-- the bytes of a token are those of the text from its start on
byte_of : (text : List ℕ) (token : Token) (k : ℕ) → k < token.end - token.start → slice_index (bytes_of text token) k ≡ slice_index text (token.start + k)
byte_of text token k within =
    get_or-take (token.end - token.start) (drop token.start text) k 0 within ∙ get_or-drop token.start text k 0

first_byte : (text : List ℕ) (token : Token) → IsTile text token → slice_index (bytes_of text token) 0 ≡ slice_index text token.start
first_byte text token tile =
    let same : token.start + 0 ≡ token.start = omega arith in
    byte_of text token 0 (omega (arith, tile.some)) ∙ ap (slice_index text) same

-- the last character is one byte
record EndsAscii (characters : List ℕ) : Type 0 where
  front : List ℕ
  last : ℕ
  small : last < 128
  split : characters ≡ front ++ last ∷ []

ends_behind : (c : ℕ) (cs : List ℕ) → EndsAscii cs → EndsAscii (c ∷ cs)
ends_behind c cs ends = record { front = c ∷ ends.front; last = ends.last; small = ends.small; split = ap (λ (l : List ℕ). c ∷ l) ends.split }

ends_append : (front cs : List ℕ) → EndsAscii cs → EndsAscii (front ++ cs)
ends_append [] cs ends = ends
ends_append (c ∷ front) cs ends = ends_behind c (front ++ cs) (ends_append front cs ends)

ends_times : (n c : ℕ) (cs : List ℕ) → EndsAscii cs → EndsAscii (times n c cs)
ends_times zero c cs ends = ends
ends_times (suc n) c cs ends = ends_behind c (times n c cs) (ends_times n c cs ends)

ends_some : (n c : ℕ) → c < 128 → EndsAscii (times (suc n) c [])
ends_some zero c small = record { front = []; last = c; small = small; split = refl }
ends_some (suc n) c small = ends_behind c (times (suc n) c []) (ends_some n c small)

ends_marks : (n c m d : ℕ) → c < 128 → d < 128 → EndsAscii (times (suc n) c (times m d []))
ends_marks n c zero d small also = ends_some n c small
ends_marks n c (suc m) d small also = ends_times (suc n) c (times (suc m) d []) (ends_some m d also)

ends_quotes : (triple : Bool) (m : ℕ) → EndsAscii (times (if triple then 3 else 1) QUOTE (times m POUND []))
ends_quotes true m = ends_marks 2 QUOTE m POUND (omega arith) (omega arith)
ends_quotes false m = ends_marks 0 QUOTE m POUND (omega arith) (omega arith)

string_ends : (characters : List ℕ) → IsString characters → EndsAscii characters
string_ends characters string =
    let quotes = string.quotes in
    let behind = times (quotes_of quotes) QUOTE (times quotes.pounds POUND []) in
    subst EndsAscii (sym string.split) (ends_times quotes.pounds POUND (times (quotes_of quotes) QUOTE (string.inside ++ behind)) (ends_times (quotes_of quotes) QUOTE (string.inside ++ behind) (ends_append string.inside behind (ends_quotes quotes.triple quotes.pounds))))

spelled_ends : (characters : List ℕ) → Spells class.Str characters → EndsAscii characters
spelled_ends [] spelled = absurd spelled
spelled_ends (c ∷ cs) spelled = string_ends (c ∷ cs) spelled

last_byte : (characters bytes : List ℕ) (n : ℕ) → encode_utf8_all characters ≡ bytes → length bytes ≡ suc n → EndsAscii characters → slice_index bytes n < 128
last_byte characters bytes n same size ends =
    let whole : bytes ≡ encode_utf8_all ends.front ++ ends.last ∷ [] =
    sym same ∙ ap encode_utf8_all ends.split ∙ encodes-append ends.front (ends.last ∷ []) ∙ ap (λ (l : List ℕ). encode_utf8_all ends.front ++ (l ++ [])) (encode_ascii ends.last ends.small) in
    let front : length (encode_utf8_all ends.front) ≡ n = omega (arith, size, ap length whole, length-append (encode_utf8_all ends.front) (ends.last ∷ [])) in
    let is : slice_index bytes n ≡ ends.last = ap (λ (l : List ℕ). slice_index l n) whole ∙ get_or_push (encode_utf8_all ends.front) ends.last 0 n front in
    omega (arith, is, ends.small)

-- the last byte of a string is a character
pub before_last : (text : List ℕ) (token : Token) → IsTile text token → token.class ≡ class.Str → IsCharBoundary text (token.end - 1)
before_last text token tile is =
    let spelled = tile.spelled in
    let n = token.end - token.start - 1 in
    let size : length (bytes_of text token) ≡ suc n = omega (arith, length-take (token.end - token.start) (drop token.start text), length-drop token.start text, tile.within, tile.some) in
    let small = last_byte spelled.characters (bytes_of text token) n spelled.encoded size (spelled_ends spelled.characters (subst (λ c. Spells c spelled.characters) is spelled.spelled)) in
    let place : token.start + n ≡ token.end - 1 = omega (arith, tile.some) in
    let same : slice_index (bytes_of text token) n ≡ slice_index text (token.end - 1) = byte_of text token n (omega (arith, tile.some)) ∙ ap (slice_index text) place in
    IsCharBoundary-before_ascii text (token.end - 1) (omega (arith, tile.some, tile.within)) (omega (arith, small, same))

quote_byte : (bytes : List ℕ) → begins_with_quote bytes ≡ true → slice_index bytes 0 ≡ 34
quote_byte [] is = cc
quote_byte (first ∷ more) is = eqb-true first 34 is

-- a `"` is one byte
pub behind_quote : (text : List ℕ) (token : Token) → IsUtf8 text → IsTile text token → begins_with_quote (bytes_of text token) ≡ true → IsCharBoundary text (token.start + 1)
behind_quote text token utf8 tile is =
    IsCharBoundary-after_ascii text token.start utf8 (omega (arith, tile.some, tile.within)) (omega (arith, first_byte text token tile, quote_byte (bytes_of text token) is))

-- what stands between the first byte and the last, as the part of the text from place to place
pub inside-is : (text : List ℕ) (from to : ℕ) → drop 1 (slice_range text from to) ≡ slice_range text (from + 1) to
inside-is text from to =
    elim (cases_lt from to) [
      | inl some ↦
          let whole : to - from ≡ 1 + (to - (from + 1)) = omega (arith, some) in
          ap (λ n. drop 1 (take n (drop from text))) whole ∙ drop-take 1 (to - (from + 1)) (drop from text) ∙ ap (take (to - (from + 1))) (drop-drop 1 from text)
      | inr past ↦
          let none : to - from ≡ 0 = omega (arith, past) in
          let also : 0 ≡ to - (from + 1) = omega (arith, past) in
          ap (λ n. drop 1 (take n (drop from text))) none ∙ ap (λ n. take n (drop (from + 1) text)) also
    ]
