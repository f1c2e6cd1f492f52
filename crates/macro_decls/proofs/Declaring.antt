-- Macros without fault declare all that is written.
use Rattle.std.proofs.Common.{◌≡◌, ℕ, Bool, true, false, Option, Some, None, Result, Ok, List, [], ◌∷◌, map, length, filter_map, option_map, refl, sym, ap, ◌∙◌}
use Rattle.std.specs.Prelude.{is_none, ◌==◌, cond}
use Rattle.std.specs.List.{AllByRecursion, cons_option}
use Rattle.std.specs.Option.{option_or}
use Rattle.unique_names.specs.declared.role.Role.{Role}
use Rattle.role_names.specs.declared.rule.NameList.{NameList}
use Rattle.macro_decls.specs.declared.external.External.{External}
use Rattle.macro_decls.specs.declared.fault.Found.{Found}
use Rattle.macro_decls.specs.declared.fault.MacroFault.{MacroFault}
use Rattle.macro_decls.specs.declared.fault.MacroKind.{MacroKind}
use Rattle.macro_decls.specs.declared.fault.MacroKind.TheVariants as kind
use Rattle.macro_decls.specs.declared.table.MacroDecl.{MacroDecl}
use Rattle.macro_decls.specs.declared.table.RoleDecl.{RoleDecl}
use Rattle.macro_decls.specs.declared.written.MacroWritten.{MacroWritten}
use Rattle.macro_decls.specs.declared.written.RoleWritten.{RoleWritten}
use Rattle.macro_decls.specs.Faults.{at_name, at_role, bad_conformances, bad_names, bad_role, faults_from, first_fault, is_among, is_bad, second_freestanding, with_fault}
use Rattle.macro_decls.specs.Macros.{declared, declared_by, macros, macros_by, role_declared, role_declared_by, written_from}
use Rattle.macro_decls.specs.Laws.{EachMacroDeclared, EachRoleDeclared}

neither : {A : Type 0} (one other : Option A) → option_or one other ≡ None → (one ≡ None) × (other ≡ None)
neither None other none = (refl, none)
neither (Some x) other none = cc

no_role : (kind : MacroKind) (o : Option RoleWritten) → at_role kind o ≡ None → o ≡ None
no_role kind None none = refl
no_role kind (Some role) none = cc

-- nothing of an attribute is missing
record IsWhole (role : RoleWritten) : Type 0 where
  has_role : is_none role.role ≡ false
  names : is_none role.names ≡ false
  conformances : is_none role.conformances ≡ false

record IsFaultless (written : MacroWritten) : Type 0 where
  roles : AllByRecursion IsWhole written.roles
  external : is_none written.external ≡ false

bad_or : (b : Bool) (x : RoleWritten) (more : Option RoleWritten) → cond b (Some x) more ≡ None → (b ≡ false) × (more ≡ None)
bad_or true x more none = cc
bad_or false x more none = (refl, none)

has_role : (earlier : List RoleWritten) (role : Option Role) → is_bad earlier role ≡ false → is_none role ≡ false
has_role earlier None good = good
has_role earlier (Some role) good = refl

all_whole : (earlier roles : List RoleWritten) → bad_role earlier roles ≡ None → bad_names roles ≡ None → bad_conformances roles ≡ None → AllByRecursion IsWhole roles
all_whole earlier [] none names conformances = tt
all_whole earlier (role ∷ roles) none names conformances =
    let first = bad_or (is_bad earlier role.role) role _ none in
    let second = bad_or (is_none role.names) role _ names in
    let third = bad_or (is_none role.conformances) role _ conformances in
    (record { has_role = has_role earlier role.role first.0; names = second.0; conformances = third.0 }, all_whole _ roles first.1 second.1 third.1)

not_wrong : (written : MacroWritten) (kind : MacroKind) (wrong : Bool) → at_name written kind wrong ≡ None → wrong ≡ false
not_wrong written kind true none = cc
not_wrong written kind false none = refl

faultless : (repeated : Bool) (written : MacroWritten) → first_fault repeated written ≡ None → IsFaultless written
unfolding first_fault
faultless repeated written none =
    let first = neither (at_name written kind.Duplicate repeated) _ none in
    let second = neither (at_name written kind.NoRole (length written.roles == 0)) _ first.1 in
    let third = neither (at_role kind.BadRole (bad_role [] written.roles)) _ second.1 in
    let fourth = neither (at_role kind.BothFreestanding (second_freestanding written.roles)) _ third.1 in
    let fifth = neither (at_role kind.BadNames (bad_names written.roles)) _ fourth.1 in
    let sixth = neither (at_role kind.BadConformances (bad_conformances written.roles)) _ fifth.1 in
    record {
      roles = all_whole [] written.roles (no_role kind.BadRole _ third.0) (no_role kind.BadNames _ fifth.0) (no_role kind.BadConformances _ sixth.0);
      external = not_wrong written kind.NotExternal _ sixth.1;
    }

with_none : (written : MacroWritten) (found : Option Found) (faults : List MacroFault) → with_fault written found faults ≡ [] → (found ≡ None) × (faults ≡ [])
with_none written None faults none = (refl, none)
with_none written (Some found) faults none = cc

all_faultless : (before : List (List ℕ)) (all : List MacroWritten) → faults_from before all ≡ [] → AllByRecursion IsFaultless all
all_faultless before [] none = tt
all_faultless before (written ∷ others) none =
    let first = with_none written (first_fault (is_among before written.name) written) (faults_from (written.name ∷ before) others) none in
    (faultless (is_among before written.name) written first.0, all_faultless (written.name ∷ before) others first.1)

role_put : (role : Option Role) (names : Option NameList) (conformances : Option (List (List ℕ))) (more : List RoleDecl) → is_none role ≡ false → is_none names ≡ false → is_none conformances ≡ false
    → map (λ (r : RoleDecl). Some r.role) (cons_option (role_declared_by role names conformances) more) ≡ role ∷ map (λ (r : RoleDecl). Some r.role) more
role_put (Some role) (Some names) (Some conformances) more first second third = refl
role_put None names conformances more first second third = cc
role_put (Some role) None conformances more first second third = cc
role_put (Some role) (Some names) None more first second third = cc

roles_declared : (roles : List RoleWritten) → AllByRecursion IsWhole roles → map (λ (r : RoleDecl). Some r.role) (filter_map role_declared roles) ≡ map (λ (r : RoleWritten). r.role) roles
roles_declared [] each = refl
roles_declared (role ∷ roles) each =
    role_put role.role role.names role.conformances (filter_map role_declared roles) each.0.has_role each.0.names each.0.conformances
    ∙ ap (λ l. role.role ∷ l) (roles_declared roles each.1)

abbrev made : List MacroDecl → Result (List MacroDecl) (List MacroFault)
made declarations = Ok declarations

made_same : (one other : List MacroDecl) → made one ≡ made other → one ≡ other
made_same one other is = cc

module _ {A : Type 0} (of : MacroDecl → A) (own : MacroWritten → A) (same : (written : MacroWritten) (external : External) → IsFaultless written → of (declared_by written external) ≡ own written) where
  put : (written : MacroWritten) (o : Option External) (more : List MacroDecl) → IsFaultless written → is_none o ≡ false
      → map of (cons_option (option_map (declared_by written) o) more) ≡ own written ∷ map of more
  put written None more whole some = cc
  put written (Some external) more whole some = ap (λ x. x ∷ map of more) (same written external whole)

  all_put : (all : List MacroWritten) → AllByRecursion IsFaultless all → map of (filter_map declared all) ≡ map own all
  all_put [] each = refl
  all_put (written ∷ others) each = put written written.external (filter_map declared others) each.0 each.0.external ∙ ap (λ l. own written ∷ l) (all_put others each.1)

  by_faults : (faults : List MacroFault) (all : List MacroWritten) (declarations : List MacroDecl) → faults_from [] all ≡ faults → macros_by faults all ≡ made declarations → map of declarations ≡ map own all
  by_faults [] all declarations none is = ap (map of) (sym (made_same (filter_map declared all) declarations is)) ∙ all_put all (all_faultless [] all none)
  by_faults (fault ∷ faults) all declarations some is = cc

pub each_macro_declared : EachMacroDeclared
unfolding macros
each_macro_declared outlines declarations is =
    by_faults (λ d. d.name) (λ written. written.name) (λ written external whole. refl) (faults_from [] (written_from 0 outlines)) (written_from 0 outlines) declarations refl is

pub each_role_declared : EachRoleDeclared
unfolding macros
each_role_declared outlines declarations is =
    by_faults (λ d. map (λ role. Some role.role) d.roles) (λ written. map (λ role. role.role) written.roles) (λ written external whole. roles_declared written.roles whole.roles)
    (faults_from [] (written_from 0 outlines)) (written_from 0 outlines) declarations refl is
