-- this project's own: the discriminator of a key, by which the names made for one request differ from all others.
use Rattle.std.specs.Prelude.{◌≡◌, ℕ, zero, suc, ◌+◌, List, [], ◌∷◌, ◌++◌, map, codes}
use Rattle.std.specs.Str.{IsUtf8}
use Rattle.std.specs.Int.Digits.{digits_of}
use Rattle.unique_names.specs.declared.step.KeyStep.{KeyStep}
use Rattle.unique_names.specs.Roles.{letter_of}

-- a number's decimal digits, without a leading zero
unfoldable pub numeral : ℕ → List ℕ
numeral zero = codes "0"
numeral (suc n) = map (λ d. 48 + d) (digits_of 10 (suc n))

-- offset, letter, member number and `_`
unfoldable pub step_text : KeyStep → List ℕ
step_text step = numeral step.offset ++ letter_of step.role ∷ (numeral step.member ++ codes "_")

unfoldable pub steps_text : List KeyStep → List ℕ
steps_text [] = codes "E"
steps_text (step ∷ rest) = step_text step ++ steps_text rest

-- `$sX`, each step, and `E`
unfoldable pub discriminator_of : List KeyStep → List ℕ
discriminator_of steps = codes "$sX" ++ steps_text steps

-- no word begins with the discriminators of two keys
abbrev pub OneKeyBegins : Type 0
OneKeyBegins = (a b : List KeyStep) (x y : List ℕ) → discriminator_of a ++ x ≡ discriminator_of b ++ y → a ≡ b

-- no key's discriminator begins another's
abbrev pub PrefixFree : Type 0
PrefixFree = (a b : List KeyStep) (x : List ℕ) → discriminator_of a ++ x ≡ discriminator_of b → a ≡ b

-- each discriminator is UTF-8
abbrev pub DiscriminatorsAreUtf8 : Type 0
DiscriminatorsAreUtf8 = (steps : List KeyStep) → IsUtf8 (discriminator_of steps)
