-- Values that an object of the outside tells or doesn't tell. This project's own.
use Rattle.std.specs.Prelude.{ℕ, ◌-◌, ◌<◌, ◌≤◌, ◌^◌, ◌⊎◌, Option, Some, None, List, [], ◌∷◌, ◌++◌}

-- a fact about what is told; nothing is said where nothing is told
abbrev pub Tells : {A : Type 0} → Option A → (A → Type 0) → Type 0
Tells None P = Unit {0}
Tells (Some x) P = P x

-- what was told, with more in front of it
abbrev pub prepend : List ℕ → Option (List ℕ) → Option (List ℕ)
prepend front None = None
prepend front (Some rest) = Some (front ++ rest)

-- what was told, with more behind it
abbrev pub then_bytes : Option (List ℕ) → List ℕ → Option (List ℕ)
then_bytes None more = None
then_bytes (Some front) more = Some (front ++ more)

-- a list of names that was told, with one more at its end
abbrev pub then_name : Option (List (List ℕ)) → List ℕ → Option (List (List ℕ))
then_name None name = None
then_name (Some names) name = Some (names ++ name ∷ [])

-- a count became greater, or stands at the end of its counter
abbrev pub Rose : ℕ → ℕ → Type 0
Rose before now = (before < now) ⊎ (2 ^ 64 - 1 ≤ before)
