-- A discriminator is ASCII, so UTF-8.
use Rattle.std.proofs.Common.{ℕ, zero, suc, ◌<◌, List, [], ◌∷◌, arith}
use Rattle.std.specs.Str.{IsUtf8, IsAscii}
use Rattle.std.proofs.lemmas.Str.{IsUtf8-append, IsUtf8-from_ascii}
use Rattle.unique_names.specs.declared.step.KeyStep.{KeyStep}
use Rattle.unique_names.specs.Roles.{letter_of}
use Rattle.unique_names.specs.Names.{numeral, step_text, steps_text, discriminator_of}
use Rattle.unique_names.proofs.Numerals.{AllDigits, numeral_is_digits}
use Rattle.unique_names.proofs.Prefix.{letter_is_ascii}

digits_are_ascii : (ds : List ℕ) → AllDigits ds → IsAscii ds
digits_are_ascii [] digits i = omega arith
digits_are_ascii (d ∷ ds) digits zero = omega (arith, digits.0.below)
digits_are_ascii (d ∷ ds) digits (suc i) = digits_are_ascii ds digits.1 i

pub byte_is_utf8 : (c : ℕ) → c < 128 → IsUtf8 (c ∷ [])
byte_is_utf8 c small = IsUtf8-from_ascii (c ∷ []) ascii
  where
    ascii : IsAscii (c ∷ [])
    ascii zero = small
    ascii (suc i) = omega arith

pub numeral_is_utf8 : (n : ℕ) → IsUtf8 (numeral n)
numeral_is_utf8 n = IsUtf8-from_ascii (numeral n) (digits_are_ascii (numeral n) (numeral_is_digits n))

step_is_utf8 : (s : KeyStep) → IsUtf8 (step_text s)
unfolding step_text
step_is_utf8 s =
    IsUtf8-append _ _ (numeral_is_utf8 s.offset) (IsUtf8-append (letter_of s.role ∷ []) _ (byte_is_utf8 _ (letter_is_ascii s.role))
    (IsUtf8-append _ _ (numeral_is_utf8 s.member) (byte_is_utf8 95 (omega arith))))

steps_are_utf8 : (steps : List KeyStep) → IsUtf8 (steps_text steps)
unfolding steps_text
steps_are_utf8 [] = byte_is_utf8 69 (omega arith)
steps_are_utf8 (s ∷ rest) = IsUtf8-append _ _ (step_is_utf8 s) (steps_are_utf8 rest)

pub discriminator_is_utf8 : (steps : List KeyStep) → IsUtf8 (discriminator_of steps)
unfolding discriminator_of
discriminator_is_utf8 steps =
    IsUtf8-append (36 ∷ []) _ (byte_is_utf8 36 (omega arith)) (IsUtf8-append (115 ∷ []) _ (byte_is_utf8 115 (omega arith)) (IsUtf8-append (88 ∷ []) _ (byte_is_utf8 88 (omega arith)) (steps_are_utf8 steps)))
