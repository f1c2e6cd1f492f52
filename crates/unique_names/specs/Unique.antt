-- this project's own, after swift-syntax's unique names: the names that begin with a request's key text, and how they are made.
use Rattle.std.specs.Prelude.{◌≡◌, ℕ, zero, suc, ◌+◌, ◌<◌, Bool, ◌&&◌, List, [], ◌∷◌, ◌++◌, length, codes, nat_eq, nat_lt}
use Rattle.std.specs.List.{starts_with}
use Rattle.unique_names.specs.Names.{numeral}

-- the name is the key text and something behind it
pub record IsUnique (key_text name : List ℕ) : Type 0 where
  pub rest : List ℕ
  pub begins : name ≡ key_text ++ rest
  pub longer : length key_text < length name

-- the same by a test, for definitions that compute
abbrev pub is_unique : List ℕ → List ℕ → Bool
is_unique key_text name = starts_with nat_eq name key_text && nat_lt (length key_text) (length name)

-- a name that is made of no base is one of `__local`
abbrev pub base_read : List ℕ → List ℕ
base_read [] = codes "__local"
base_read (byte ∷ base) = byte ∷ base

-- the first name of a key text shows no index, the next one 0
unfoldable pub index_text : ℕ → List ℕ
index_text zero = []
index_text (suc before) = numeral before

-- the byte count of the base and the base, `fMu`, the index and `_`
unfoldable pub ending_of : List ℕ → ℕ → List ℕ
ending_of base index = numeral (length base) ++ (base ++ (codes "fMu" ++ (index_text index ++ codes "_")))

-- the name of this index, from 0, among those of the key text
unfoldable pub made_name : List ℕ → List ℕ → ℕ → List ℕ
made_name key_text base index = key_text ++ ending_of (base_read base) index

-- What makes names: the key text, and how many were made.
pub record Made : Type 0 where
  pub key_text : List ℕ
  pub count : ℕ

abbrev pub none_made : List ℕ → Made
none_made key_text = record { key_text = key_text; count = 0 }

abbrev pub one_more : Made → Made
one_more made = record { key_text = made.key_text; count = made.count + 1 }
