-- SE-0389: the names that a macro may make, by the list of its role and by the key of its request.
use Rattle.std.specs.Prelude.{◌≡◌, ℕ, List, ◌++◌, Option, IsSomeAnd, ◌⊎◌}
use Rattle.std.specs.List.{Any}
use Rattle.unique_names.specs.declared.step.KeyStep.{KeyStep}
use Rattle.unique_names.specs.Names.{discriminator_of}
use Rattle.unique_names.specs.Unique.{IsUnique}
use Rattle.role_names.specs.declared.rule.NameRule.{NameRule}
use Rattle.role_names.specs.declared.rule.NameRule.TheVariants.{Named, Overloaded, Prefixed, Suffixed, Arbitrary}

-- the rule covers the name, where `attached` is the one name of the attached declaration
abbrev pub IsCoveredBy : Option (List ℕ) → List ℕ → NameRule → Type 0
IsCoveredBy attached name (Named own) = name ≡ own
IsCoveredBy attached name Overloaded = IsSomeAnd attached (λ a. name ≡ a)
IsCoveredBy attached name (Prefixed prefix) = IsSomeAnd attached (λ a. name ≡ prefix ++ a)
IsCoveredBy attached name (Suffixed suffix) = IsSomeAnd attached (λ a. name ≡ a ++ suffix)
IsCoveredBy attached name Arbitrary = Unit {0}

-- one of the rules covers it
abbrev pub IsCoveredByList : List NameRule → Option (List ℕ) → List ℕ → Type 0
IsCoveredByList rules attached name = Any (IsCoveredBy attached name) rules

-- the name is one of those that are unique to the request: its key's discriminator and something behind it
abbrev pub IsUniqueName : List KeyStep → List ℕ → Type 0
IsUniqueName key name = IsUnique (discriminator_of key) name

-- a rule covers the name, or it is unique to the request
abbrev pub IsCovered : List NameRule → Option (List ℕ) → List KeyStep → List ℕ → Type 0
IsCovered rules attached key name = IsCoveredByList rules attached name ⊎ IsUniqueName key name
