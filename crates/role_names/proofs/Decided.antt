-- Each test of covered names decides its relation.
use Rattle.std.proofs.Common.{ℕ, Bool, false, List, ◌++◌, Option, Some, None, Decides, refl}
use Rattle.std.specs.List.{Any, list_any}
use Rattle.std.proofs.lemmas.List.Folds.{Any-from_list_any, list_any-from_Any}
use Rattle.std.proofs.lemmas.Bool.Decides.{Decides-or}
use Rattle.std.proofs.lemmas.Slice.Eq.{bytes_eq-Decides}
use Rattle.unique_names.specs.Names.{discriminator_of}
use Rattle.unique_names.proofs.Made.{are_decided}
use Rattle.role_names.specs.declared.rule.NameRule.{NameRule}
use Rattle.role_names.specs.declared.rule.NameRule.TheVariants.{Named, Overloaded, Prefixed, Suffixed, Arbitrary}
use Rattle.role_names.specs.Covered.{IsCoveredBy}
use Rattle.role_names.specs.Decided.{is_covered_by, ListIsDecided, UniqueIsDecided, IsDecided}

never : Decides false ⊥
never = (λ wrong. cc, λ none. absurd none)

pub rule_is_decided : (attached : Option (List ℕ)) (name : List ℕ) (rule : NameRule) → Decides (is_covered_by attached name rule) (IsCoveredBy attached name rule)
rule_is_decided attached name (Named own) = bytes_eq-Decides name own
rule_is_decided None name Overloaded = never
rule_is_decided (Some a) name Overloaded = bytes_eq-Decides name a
rule_is_decided None name (Prefixed prefix) = never
rule_is_decided (Some a) name (Prefixed prefix) = bytes_eq-Decides name (prefix ++ a)
rule_is_decided None name (Suffixed suffix) = never
rule_is_decided (Some a) name (Suffixed suffix) = bytes_eq-Decides name (a ++ suffix)
rule_is_decided attached name Arbitrary = (λ _. tt, λ _. refl)

any_decides : {A : Type 0} (p : A → Bool) (P : A → Type 0) → ((x : A) → Decides (p x) (P x)) → (xs : List A) → Decides (list_any p xs) (Any P xs)
any_decides p P each xs = (
  λ e. let a = Any-from_list_any p xs e in (a.0, a.1, a.2, a.3, (each a.1).0 a.4),
  λ a. list_any-from_Any p xs (a.0, a.1, a.2, a.3, (each a.1).1 a.4),
)

pub list_is_decided : ListIsDecided
list_is_decided rules attached name = any_decides (is_covered_by attached name) (IsCoveredBy attached name) (rule_is_decided attached name) rules

pub unique_is_decided : UniqueIsDecided
unique_is_decided key name = are_decided (discriminator_of key) name

pub is_decided : IsDecided
is_decided rules attached key name = Decides-or _ _ (list_is_decided rules attached name) (unique_is_decided key name)
