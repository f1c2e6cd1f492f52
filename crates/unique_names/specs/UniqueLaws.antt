-- this project's own: what holds of all unique names.
use Rattle.std.specs.Prelude.{◌≡◌, ℕ, List}
use Rattle.std.specs.Bool.{Decides}
use Rattle.std.specs.Str.{IsUtf8}
use Rattle.unique_names.specs.declared.step.KeyStep.{KeyStep}
use Rattle.unique_names.specs.Names.{discriminator_of}
use Rattle.unique_names.specs.Unique.{IsUnique, is_unique, made_name}

-- the test holds exactly of the unique names
abbrev pub UniqueNamesAreDecided : Type 0
UniqueNamesAreDecided = (key_text name : List ℕ) → Decides (is_unique key_text name) (IsUnique key_text name)

-- no word is a unique name of two keys
abbrev pub UniqueNamesTellKeys : Type 0
UniqueNamesTellKeys = (a b : List KeyStep) (word : List ℕ) → IsUnique (discriminator_of a) word → IsUnique (discriminator_of b) word → a ≡ b

-- a made name is a unique name of its key text
abbrev pub MadeNamesAreUnique : Type 0
MadeNamesAreUnique = (key_text base : List ℕ) (index : ℕ) → IsUnique key_text (made_name key_text base index)

-- names of one key text with different indexes differ
abbrev pub MadeNamesDiffer : Type 0
MadeNamesDiffer = (key_text a b : List ℕ) (i j : ℕ) → made_name key_text a i ≡ made_name key_text b j → i ≡ j

-- a made name is UTF-8 where its key text and its base are
abbrev pub MadeNamesAreUtf8 : Type 0
MadeNamesAreUtf8 = (key_text base : List ℕ) (index : ℕ) → IsUtf8 key_text → IsUtf8 base → IsUtf8 (made_name key_text base index)
