-- this project's own: covered names by Boolean tests, for definitions that compute.
use Rattle.std.specs.Prelude.{ℕ, Bool, true, false, ◌||◌, List, ◌++◌, Option, None, Some}
use Rattle.std.specs.Bool.{Decides}
use Rattle.std.specs.List.{list_any}
use Rattle.std.specs.Str.{bytes_eq}
use Rattle.unique_names.specs.declared.step.KeyStep.{KeyStep}
use Rattle.unique_names.specs.Names.{discriminator_of}
use Rattle.unique_names.specs.Unique.{is_unique}
use Rattle.role_names.specs.declared.rule.NameRule.{NameRule}
use Rattle.role_names.specs.declared.rule.NameRule.TheVariants.{Named, Overloaded, Prefixed, Suffixed, Arbitrary}
use Rattle.role_names.specs.Covered.{IsCoveredByList, IsUniqueName, IsCovered}

-- the name that a rule makes of the attached one
abbrev pub is_made : Option (List ℕ) → (List ℕ → List ℕ) → List ℕ → Bool
is_made None make name = false
is_made (Some attached) make name = bytes_eq name (make attached)

-- as `IsCoveredBy`
abbrev pub is_covered_by : Option (List ℕ) → List ℕ → NameRule → Bool
is_covered_by attached name (Named own) = bytes_eq name own
is_covered_by attached name Overloaded = is_made attached (λ a. a) name
is_covered_by attached name (Prefixed prefix) = is_made attached (λ a. prefix ++ a) name
is_covered_by attached name (Suffixed suffix) = is_made attached (λ a. a ++ suffix) name
is_covered_by attached name Arbitrary = true

abbrev pub is_covered_by_list : List NameRule → Option (List ℕ) → List ℕ → Bool
is_covered_by_list rules attached name = list_any (is_covered_by attached name) rules

abbrev pub is_unique_name : List KeyStep → List ℕ → Bool
is_unique_name key name = is_unique (discriminator_of key) name

abbrev pub is_covered : List NameRule → Option (List ℕ) → List KeyStep → List ℕ → Bool
is_covered rules attached key name = is_covered_by_list rules attached name || is_unique_name key name

-- each test holds exactly where its relation does
abbrev pub ListIsDecided : Type 0
ListIsDecided = (rules : List NameRule) (attached : Option (List ℕ)) (name : List ℕ) →
    Decides (is_covered_by_list rules attached name) (IsCoveredByList rules attached name)

abbrev pub UniqueIsDecided : Type 0
UniqueIsDecided = (key : List KeyStep) (name : List ℕ) → Decides (is_unique_name key name) (IsUniqueName key name)

abbrev pub IsDecided : Type 0
IsDecided = (rules : List NameRule) (attached : Option (List ℕ)) (key : List KeyStep) (name : List ℕ) →
    Decides (is_covered rules attached key name) (IsCovered rules attached key name)
