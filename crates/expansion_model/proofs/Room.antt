-- A reply's buffer has room for fewer pairs of a macro and a role than that of its use.
use Rattle.std.proofs.Common.{◌≡◌, ◌∙◌, ap, refl, sym, arith, ◌<◌, ◌≤◌, inl, inr, List, [], ◌∷◌, ◌++◌, length, map, filter, Bool, true, false, cond, not, ◌||◌, ◌&&◌}
use Rattle.std.specs.List.{AllByRecursion, Contains, list_any}
use Rattle.std.proofs.lemmas.List.Folds.{list_any-append}
use Rattle.std.proofs.lemmas.Slice.Eq.{bytes_eq-Decides}
use Rattle.swift_base.specs.declared.plugins.Plugin.{Plugin}
use Rattle.unique_names.specs.declared.role.Role.{Role}
use Rattle.unique_names.specs.declared.role.Role.TheVariants.{Expression, Declaration, Accessor, MemberAttribute, Member, Peer, Extension}
use Rattle.macro_decls.specs.declared.table.MacroDecl.{MacroDecl}
use Rattle.expansion_model.specs.Buffers.{BufferSeen, is_among, pair_of, same_pair}
use Rattle.expansion_model.specs.BufferSites.{ask_if, buffer_sites, unless_recursive}
use Rattle.expansion_model.specs.Macros.{role_eq}
use Rattle.expansion_model.specs.Sites.{sites_of}
use Rattle.expansion_model.specs.Visit.{pairs_of, room}
use Rattle.expansion_model.specs.declared.buffer.Ancestor.{Ancestor}
use Rattle.expansion_model.specs.declared.site.Ask.{Ask}
use Rattle.expansion_model.specs.declared.site.Site.{Site}
use Rattle.expansion_model.specs.declared.site.Site.TheVariants as site
use Rattle.expansion_model.proofs.Declared.{IsOfDeclared, sites_declared}
use Rattle.expansion_model.proofs.Lists.{contains_cases, contains_none}

-- a stricter test keeps no more, and fewer where one that passes the other fails it
kept_by : {A : Type 0} (x : A) (all some : List A) (wide narrow : Bool) → (narrow ≡ true → wide ≡ true) → length some ≤ length all → length (cond narrow (x ∷ some) some) ≤ length (cond wide (x ∷ all) all)
kept_by x all some true true within less = omega arith
kept_by x all some true false within less = omega arith
kept_by x all some false true within less = cc (within refl)
kept_by x all some false false within less = less

module _ {A : Type 0} (wide narrow : A → Bool) (within : (x : A) → narrow x ≡ true → wide x ≡ true) where
  kept_less : (xs : List A) → length (filter narrow xs) ≤ length (filter wide xs)
  kept_less [] = omega arith
  kept_less (x ∷ xs) = kept_by x (filter wide xs) (filter narrow xs) (wide x) (narrow x) (within x) (kept_less xs)

  fewer_here : (x : A) (xs : List A) (first_wide first_narrow : Bool) → first_wide ≡ true → first_narrow ≡ false → length (cond first_narrow (x ∷ filter narrow xs) (filter narrow xs)) < length (cond first_wide (x ∷ filter wide xs) (filter wide xs))
  fewer_here x xs true false is fails = let less = kept_less xs in omega arith
  fewer_here x xs true true is fails = cc
  fewer_here x xs false first_narrow is fails = cc

  fewer_later : (x : A) (all some : List A) (first_wide first_narrow : Bool) → (first_narrow ≡ true → first_wide ≡ true) → length some < length all → length (cond first_narrow (x ∷ some) some) < length (cond first_wide (x ∷ all) all)
  fewer_later x all some true true both less = omega arith
  fewer_later x all some true false both less = omega arith
  fewer_later x all some false true both less = cc (both refl)
  fewer_later x all some false false both less = less

  kept_fewer : (xs : List A) (x : A) → Contains xs x → wide x ≡ true → narrow x ≡ false → length (filter narrow xs) < length (filter wide xs)
  kept_fewer [] x has is fails = contains_none x has
  kept_fewer (first ∷ xs) x has is fails =
      elim (contains_cases first xs x has) [
        | inl same ↦ fewer_here first xs (wide first) (narrow first) (ap wide same ∙ is) (ap narrow same ∙ fails)
        | inr later ↦ fewer_later first (filter wide xs) (filter narrow xs) (wide first) (narrow first) (within first) (kept_fewer xs x later is fails)
      ]

not_either : (one other : Bool) → not (one || other) ≡ true → not one ≡ true
not_either true other is = is
not_either false other is = refl

either_right : (one other : Bool) → other ≡ true → not (one || other) ≡ false
either_right true other is = refl
either_right false true is = refl
either_right false false is = cc

role_itself : (role : Role) → role_eq role role ≡ true
role_itself Expression = refl
role_itself Declaration = refl
role_itself Accessor = refl
role_itself MemberAttribute = refl
role_itself Member = refl
role_itself Peer = refl
role_itself Extension = refl

both_true : (one other : Bool) → one ≡ true → other ≡ true → (one && other) ≡ true
both_true true true is also = refl
both_true true false is also = cc
both_true false other is also = cc

pair_itself : (pair : Ancestor) → same_pair pair pair ≡ true
pair_itself pair = both_true _ _ ((bytes_eq-Decides pair.macro_name pair.macro_name).1 refl) (role_itself pair.role)

among_one : (pair : Ancestor) → list_any (same_pair pair) (pair ∷ []) ≡ true
among_one pair = ap (λ (b : Bool). b || false) (pair_itself pair)

-- one pair more among the ancestors
room_falls : (macros : List MacroDecl) (ancestors : List Ancestor) (pair : Ancestor) → Contains (pairs_of macros) pair → is_among pair ancestors ≡ false → room macros (ancestors ++ pair ∷ []) < room macros ancestors
room_falls macros ancestors pair has free =
    kept_fewer (λ other. not (is_among other ancestors)) (λ other. not (is_among other (ancestors ++ pair ∷ [])))
    (λ other is. not_either (is_among other ancestors) (list_any (same_pair other) (pair ∷ [])) (ap not (sym (list_any-append (same_pair other) ancestors (pair ∷ []))) ∙ is))
    (pairs_of macros) pair has (ap not free)
    (ap not (list_any-append (same_pair pair) ancestors (pair ∷ [])) ∙ either_right (is_among pair ancestors) (list_any (same_pair pair) (pair ∷ [])) (among_one pair))

module _ (macros : List MacroDecl) (ancestors : List Ancestor) where
  -- a reply to what is asked there has less room
  abbrev pub LeavesLess : Site → Type 0
  LeavesLess (site.Asks ask) = room macros (ancestors ++ pair_of ask ∷ []) < room macros ancestors
  LeavesLess (site.Fault fault) = Unit {0}
  LeavesLess (site.NotBuilt at) = Unit {0}
  LeavesLess (site.Attribute span) = Unit {0}

  ask_leaves : (ask : Ask) (recursive : Bool) → is_among (pair_of ask) ancestors ≡ recursive → Contains (pairs_of macros) (pair_of ask) → LeavesLess (ask_if recursive ask)
  ask_leaves ask true is has = tt
  ask_leaves ask false is has = room_falls macros ancestors (pair_of ask) has is

  kept_leave : (sites : List Site) → AllByRecursion (IsOfDeclared macros) sites → AllByRecursion LeavesLess (map (unless_recursive ancestors) sites)
  kept_leave [] each = tt
  kept_leave (site.Asks ask ∷ sites) each = (ask_leaves ask (is_among (pair_of ask) ancestors) refl each.0, kept_leave sites each.1)
  kept_leave (site.Fault fault ∷ sites) each = (tt, kept_leave sites each.1)
  kept_leave (site.NotBuilt at ∷ sites) each = (tt, kept_leave sites each.1)
  kept_leave (site.Attribute span ∷ sites) each = (tt, kept_leave sites each.1)

pub sites_leave : (macros : List MacroDecl) (plugins : List Plugin) (buffer : BufferSeen) → AllByRecursion (LeavesLess macros buffer.ancestors) (buffer_sites macros plugins buffer)
unfolding buffer_sites
sites_leave macros plugins buffer =
    kept_leave macros buffer.ancestors (sites_of macros plugins buffer.file_scope buffer.outline) (sites_declared macros plugins buffer.file_scope buffer.outline)
