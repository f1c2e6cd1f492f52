-- A text that is written as a literal stays UTF-8.
use Rattle.std.proofs.Common.{◌≡◌, ℕ, ◌<◌, ◌≤◌, eqb, ◌||◌, ◌&&◌, inl, inr, if◌then◌else◌, Bool, true, false, append-nil, List, [], ◌∷◌, ◌++◌, length, get_or, codes, sym, refl, ap, subst, arith, ◌∙◌, lit<}
use Rattle.std.specs.List.{All, flat_map}
use Rattle.std.specs.Str.{IsUtf8, IsAscii}
use Rattle.std.proofs.lemmas.Bool.{cases_lt}
use Rattle.std.proofs.lemmas.Bool.Decides.{nat_tests}
use Rattle.std.proofs.lemmas.List.Concat.{flat_map-append}
use Rattle.std.proofs.lemmas.List.Elements.{All-head, All-tail, All-from_get_or}
use Rattle.std.proofs.lemmas.Str.{IsUtf8-append, IsUtf8-nil, IsUtf8-encode, IsUtf8-from_ascii, encode_ascii, inside_one}
use Rattle.std.proofs.lemmas.Str.Ascii.{IsAscii-nil, IsAscii-cons}
use Rattle.std.proofs.Math.Utf8.{scalars, scalar, encode, encodes}
use Rattle.unique_names.specs.Unique.{made_name}
use Rattle.unique_names.proofs.Made.{are_utf8}
use Rattle.sample_macros.specs.Samples.{escaped_byte, escaped, stringified, misfit, unique_func}

-- bytes of other characters than ASCII ones are written as they are
plain_byte : (byte : ℕ) → 128 ≤ byte → escaped_byte byte ≡ byte ∷ []
plain_byte byte high = grind (arith, nat_tests)

plain_bytes : (bytes : List ℕ) → All (λ b. 128 ≤ b) bytes → flat_map escaped_byte bytes ≡ bytes
plain_bytes [] high = refl
plain_bytes (byte ∷ bytes) high =
    ap (λ l. l ++ flat_map escaped_byte bytes) (plain_byte byte (All-head (λ b. 128 ≤ b) byte bytes high))
    ∙ ap (λ l. byte ∷ l) (plain_bytes bytes (All-tail (λ b. 128 ≤ b) byte bytes high))

both : (a b : Bool) → (a && b) ≡ true → (a ≡ true) × (b ≡ true)
both true b are = (refl, are)
both false b are = cc

high_byte : (c k : ℕ) → 128 ≤ c → k < length (encode c) → 128 ≤ get_or (encode c) k 0
high_byte c k high within =
    elim (cases_lt (get_or (encode c) k 0) 128) [
      | inl low ↦ let same = inside_one c [] (encode c) k (sym (append-nil (encode c))) within low in absurd (omega arith)
      | inr high' ↦ high'
    ]

high_bytes : (c : ℕ) → 128 ≤ c → All (λ b. 128 ≤ b) (encode c)
high_bytes c high = All-from_get_or (λ b. 128 ≤ b) (encode c) 0 (λ k within. high_byte c k high within)

-- a character of ASCII is written in ASCII
escape_ascii : (byte : ℕ) → byte < 128 → IsAscii (escaped_byte byte)
escape_ascii byte low =
    elim (eqb byte 92 || eqb byte 34) as (λ quoted. IsAscii (if quoted then 92 ∷ byte ∷ [] else (if eqb byte 10 then codes "\\n" else (if eqb byte 13 then codes "\\r" else byte ∷ [])))) [
      | true ↦ IsAscii-cons 92 (byte ∷ []) (lit< tt) (IsAscii-cons byte [] low IsAscii-nil)
      | false ↦
          elim (eqb byte 10) as (λ feed. IsAscii (if feed then codes "\\n" else (if eqb byte 13 then codes "\\r" else byte ∷ []))) [
            | true ↦ IsAscii-cons 92 (110 ∷ []) (lit< tt) (IsAscii-cons 110 [] (lit< tt) IsAscii-nil)
            | false ↦
                elim (eqb byte 13) as (λ feed. IsAscii (if feed then codes "\\r" else byte ∷ [])) [
                  | true ↦ IsAscii-cons 92 (114 ∷ []) (lit< tt) (IsAscii-cons 114 [] (lit< tt) IsAscii-nil)
                  | false ↦ IsAscii-cons byte [] low IsAscii-nil
                ]
          ]
    ]

escaped_character : (c : ℕ) → scalar c ≡ true → IsUtf8 (flat_map escaped_byte (encode c))
escaped_character c is =
    elim (cases_lt c 128) [
      | inl low ↦
          subst IsUtf8 (sym (ap (λ l. flat_map escaped_byte l) (encode_ascii c low) ∙ append-nil (escaped_byte c)))
          (IsUtf8-from_ascii (escaped_byte c) (escape_ascii c low))
      | inr high ↦ subst IsUtf8 (sym (plain_bytes (encode c) (high_bytes c high))) (IsUtf8-encode c is)
    ]

escaped_characters : (cs : List ℕ) → scalars cs ≡ true → IsUtf8 (flat_map escaped_byte (encodes cs))
escaped_characters [] are = IsUtf8-nil
escaped_characters (c ∷ cs) are =
    subst IsUtf8 (sym (flat_map-append escaped_byte (encode c) (encodes cs)))
    (IsUtf8-append (flat_map escaped_byte (encode c)) (flat_map escaped_byte (encodes cs)) (escaped_character c (both (scalar c) (scalars cs) are).0) (escaped_characters cs (both (scalar c) (scalars cs) are).1))

pub escaped_utf8 : (bytes : List ℕ) → IsUtf8 bytes → IsUtf8 (escaped bytes)
unfolding escaped
escaped_utf8 bytes utf8 = subst (λ l. IsUtf8 (flat_map escaped_byte l)) utf8.1.1 (escaped_characters utf8.0 utf8.1.0)

pub stringified_utf8 : (argument : List ℕ) → IsUtf8 argument → IsUtf8 (stringified argument)
unfolding stringified
stringified_utf8 argument utf8 =
    IsUtf8-append (codes "(") _ (IsUtf8-from_ascii (codes "(") (IsAscii-cons 40 [] (lit< tt) IsAscii-nil))
    (IsUtf8-append argument _ utf8
    (IsUtf8-append (codes ", \"") _ (IsUtf8-from_ascii (codes ", \"") (IsAscii-cons 44 (32 ∷ 34 ∷ []) (lit< tt) (IsAscii-cons 32 (34 ∷ []) (lit< tt) (IsAscii-cons 34 [] (lit< tt) IsAscii-nil))))
    (IsUtf8-append (escaped argument) _ (escaped_utf8 argument utf8)
    (IsUtf8-from_ascii (codes "\")") (IsAscii-cons 34 (41 ∷ []) (lit< tt) (IsAscii-cons 41 [] (lit< tt) IsAscii-nil))))))

pub misfit_utf8 : IsUtf8 misfit
unfolding misfit encode
misfit_utf8 = (misfit, (refl, refl))

pub unique_func_utf8 : (discriminator : List ℕ) → IsUtf8 discriminator → IsUtf8 (unique_func discriminator)
unfolding unique_func encode
unique_func_utf8 discriminator utf8 =
    IsUtf8-append (codes "func ") _ (codes "func ", (refl, refl))
    (IsUtf8-append (made_name discriminator [] 0) _ (are_utf8 discriminator [] 0 utf8 IsUtf8-nil) (codes "() {}", (refl, refl)))
