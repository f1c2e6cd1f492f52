-- A use that is asked names a declared macro in one of its roles.
use Rattle.std.proofs.Common.{◌≡◌, ap, refl, sym, subst, rules, ℕ, inl, inr, List, [], ◌∷◌, map, Option, Some, None, Bool, true, false, cond, ◌||◌, if◌then◌else◌}
use Rattle.std.specs.Prelude.{IfSome, find}
use Rattle.std.specs.List.{AllByRecursion, Contains, flat_map, list_any}
use Rattle.std.specs.Str.{bytes_eq}
use Rattle.std.proofs.lemmas.List.Elements.{Contains-append_left, Contains-append_right}
use Rattle.std.proofs.lemmas.Slice.Eq.{bytes_eq-Decides}
use denote.Enum.Bare.{same_true}
use Rattle.unique_names.specs.contracts.role.Role.{the_type}
use Rattle.unique_names.specs.declared.role.Role.{Role}
use Rattle.swift_base.specs.declared.plugins.Plugin.{Plugin}
use Rattle.swift_tree.specs.declared.item.MacroUse.{MacroUse}
use Rattle.swift_tree.specs.Outlines.{OutlineSeen}
use Rattle.macro_decls.specs.declared.table.MacroDecl.{MacroDecl}
use Rattle.macro_decls.specs.declared.table.RoleDecl.{RoleDecl}
use Rattle.macro_decls.specs.Macros.{declaration_named}
use Rattle.expansion_model.specs.Buffers.{pair_of}
use Rattle.expansion_model.specs.Macros.{text_at, has_plugin, has_role, role_eq}
use Rattle.expansion_model.specs.Sites.{sites_of}
use Rattle.expansion_model.specs.Uses.{fault_at, request_at, served_use, use_of_macro, use_site}
use Rattle.expansion_model.specs.Visit.{pairs_in, pairs_of}
use Rattle.expansion_model.specs.declared.buffer.Ancestor.{Ancestor}
use Rattle.expansion_model.specs.declared.site.Site.{Site}
use Rattle.expansion_model.specs.declared.site.Site.TheVariants as site
use Rattle.expansion_model.specs.declared.site.SiteKind.TheVariants as kind
use Rattle.expansion_model.specs.declared.site.UseKind.{UseKind}
use Rattle.expansion_model.proofs.EachSite.{each_site}
use Rattle.expansion_model.proofs.Lists.{contains_cases, contains_first, contains_none, contains_rest}

pub same_role : (one other : Role) → role_eq one other ≡ true → one ≡ other
same_role one other is = same_true the_type (search rules) one other is

abbrev pair : List ℕ → Role → Ancestor
pair name wanted = record { macro_name = name; role = wanted }

-- what a look-up finds is in the list, and passes the test
abbrev IsFound : {A : Type 0} → (A → Bool) → List A → A → Type 0
IsFound test xs x = Contains xs x × (test x ≡ true)

found_by : {A : Type 0} (test : A → Bool) (x : A) (xs : List A) (passes : Bool) → test x ≡ passes → IfSome (find test xs) (IsFound test xs) → IfSome (cond passes (Some x) (find test xs)) (IsFound test (x ∷ xs))
found_by test x xs true is others = (contains_first x xs, is)
found_by test x xs false is others = found_later test x xs (find test xs) others
  where
    found_later : {A : Type 0} (test : A → Bool) (x : A) (xs : List A) (found : Option A) → IfSome found (IsFound test xs) → IfSome found (IsFound test (x ∷ xs))
    found_later test x xs None others = tt
    found_later test x xs (Some y) others = (contains_rest x xs y others.0, others.1)

found_in : {A : Type 0} (test : A → Bool) (xs : List A) → IfSome (find test xs) (IsFound test xs)
found_in test [] = tt
found_in test (x ∷ xs) = found_by test x xs (test x) refl (found_in test xs)

-- a macro's pair for each role that it has
role_by : (name : List ℕ) (wanted : Role) (own : RoleDecl) (others : List RoleDecl) (same : Bool) → role_eq own.role wanted ≡ same
    → (list_any (λ one. role_eq one.role wanted) others ≡ true → Contains (map (λ one. pair name one.role) others) (pair name wanted))
    → (same || list_any (λ one. role_eq one.role wanted) others) ≡ true → Contains (map (λ one. pair name one.role) (own ∷ others)) (pair name wanted)
role_by name wanted own others true is later has =
    subst (Contains (map (λ one. pair name one.role) (own ∷ others))) (ap (pair name) (same_role own.role wanted is))
    (contains_first (pair name own.role) (map (λ one. pair name one.role) others))
role_by name wanted own others false is later has = contains_rest (pair name own.role) (map (λ one. pair name one.role) others) (pair name wanted) (later has)

role_in : (name : List ℕ) (wanted : Role) (roles : List RoleDecl) → list_any (λ own. role_eq own.role wanted) roles ≡ true → Contains (map (λ own. pair name own.role) roles) (pair name wanted)
role_in name wanted [] has = cc
role_in name wanted (own ∷ others) has = role_by name wanted own others (role_eq own.role wanted) refl (role_in name wanted others) has

-- what one of the lists has, all of them joined have
contains_flat : {X A : Type 0} (f : X → List A) (xs : List X) (x : X) (y : A) → Contains xs x → Contains (f x) y → Contains (flat_map f xs) y
contains_flat f [] x y has own = absurd (contains_none x has)
contains_flat f (first ∷ xs) x y has own =
    elim (contains_cases first xs x has) [
      | inl is ↦ Contains-append_left (f first) (flat_map f xs) y (subst (λ one. Contains (f one) y) (sym is) own)
      | inr later ↦ Contains-append_right (f first) (flat_map f xs) y (contains_flat f xs x y later own)
    ]

pair_declared : (macros : List MacroDecl) (declared : MacroDecl) (name : List ℕ) (wanted : Role) → Contains macros declared → declared.name ≡ name → has_role wanted declared ≡ true
    → Contains (pairs_of macros) (pair name wanted)
pair_declared macros declared name wanted has named is =
    subst (λ (own : List ℕ). Contains (pairs_of macros) (pair own wanted)) named
    (contains_flat pairs_in macros declared (pair declared.name wanted) has (role_in declared.name wanted declared.roles is))

module _ (macros : List MacroDecl) where
  -- what is asked there is declared
  abbrev pub IsOfDeclared : Site → Type 0
  IsOfDeclared (site.Asks ask) = Contains (pairs_of macros) (pair_of ask)
  IsOfDeclared (site.Fault fault) = Unit {0}
  IsOfDeclared (site.NotBuilt at) = Unit {0}
  IsOfDeclared (site.Attribute span) = Unit {0}

  module _ (text : List ℕ) (plugins : List Plugin) (wanted : UseKind) (macro_use : MacroUse) where
    served_declared : (declared : MacroDecl) (served : Bool) → Contains (pairs_of macros) (pair (text_at text macro_use.name) wanted.role)
        → IsOfDeclared (if served then request_at text wanted macro_use declared else fault_at macro_use.span.start kind.NoPlugin declared.module_name)
    served_declared declared true has = has
    served_declared declared false has = tt

    role_declared : (declared : MacroDecl) (has_it : Bool) → has_role wanted.role declared ≡ has_it → Contains macros declared → declared.name ≡ text_at text macro_use.name
        → IsOfDeclared (if has_it then served_use text plugins wanted macro_use declared else fault_at macro_use.span.start kind.WrongRole (text_at text macro_use.name))
    role_declared declared true is has named =
        served_declared declared (has_plugin declared.module_name plugins) (pair_declared macros declared (text_at text macro_use.name) wanted.role has named is)
    role_declared declared false is has named = tt

    named_declared : (of_name : Option MacroDecl) → IfSome of_name (IsFound (λ d. bytes_eq d.name (text_at text macro_use.name)) macros) → IsOfDeclared (use_of_macro text plugins wanted macro_use of_name)
    named_declared None found = tt
    named_declared (Some declared) found =
        role_declared declared (has_role wanted.role declared) refl found.0 ((bytes_eq-Decides declared.name (text_at text macro_use.name)).0 found.1)

    use_declared : IsOfDeclared (use_site text macros plugins wanted macro_use)
    unfolding use_site
    use_declared = named_declared (declaration_named (text_at text macro_use.name) macros) (found_in (λ d. bytes_eq d.name (text_at text macro_use.name)) macros)

  pub sites_declared : (plugins : List Plugin) (file_scope : Bool) (seen : OutlineSeen) → AllByRecursion IsOfDeclared (sites_of macros plugins file_scope seen)
  sites_declared plugins file_scope seen =
      each_site IsOfDeclared macros plugins file_scope seen
      (record { faults = λ fault. tt; not_built = λ at. tt; attributes = λ span. tt; uses = use_declared seen.text plugins })
