-- What stands after the last slash, where there is one.
use Rattle.std.proofs.Common.{◌≡◌, ℕ, ◌==◌, Bool, true, false, if◌then◌else◌, List, [], ◌∷◌, refl}
use Rattle.std.specs.List.{list_any}
use Rattle.expansion_model.specs.Requests.{last_part}

twice : (b : Bool) (x y : List ℕ) → (if b then x else y) ≡ (if b then (if b then x else y) else y)
twice true x y = refl
twice false x y = refl

pub last_part_by : (l : List ℕ) → last_part l ≡ (if list_any (λ b. b == 47) l then last_part l else l)
last_part_by [] = refl
last_part_by (x ∷ xs) = twice (list_any (λ b. b == 47) (x ∷ xs)) (last_part xs) (x ∷ xs)
