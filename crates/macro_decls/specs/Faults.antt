-- What is wrong with the declaration of a macro: this project's own, after SE-0382, SE-0389 and SE-0402.
use Rattle.std.specs.Prelude.{ℕ, ◌==◌, if◌then◌else◌, Bool, true, false, is_none, Option, Some, None, List, [], ◌∷◌, ◌++◌, length, find, filter, slice_get}
use Rattle.std.specs.List.{list_any}
use Rattle.std.specs.Option.{option_or}
use Rattle.std.specs.Str.{bytes_eq}
use Rattle.unique_names.specs.declared.role.Role.{Role}
use Rattle.unique_names.specs.Roles.{row_of}
use Rattle.macro_decls.specs.declared.fault.Found.{Found}
use Rattle.macro_decls.specs.declared.fault.MacroFault.{MacroFault}
use Rattle.macro_decls.specs.declared.fault.MacroKind.{MacroKind}
use Rattle.macro_decls.specs.declared.fault.MacroKind.TheVariants as kind
use Rattle.macro_decls.specs.declared.written.MacroWritten.{MacroWritten}
use Rattle.macro_decls.specs.declared.written.RoleWritten.{RoleWritten}

abbrev pub at_name : MacroWritten → MacroKind → Bool → Option Found
at_name written kind wrong = if wrong then Some (record { kind = kind; at = written.at }) else None

-- at the attribute, where there is one
abbrev pub at_role : MacroKind → Option RoleWritten → Option Found
at_role kind None = None
at_role kind (Some role) = Some (record { kind = kind; at = role.at })

abbrev pub is_role : Role → Option Role → Bool
is_role role None = false
is_role role (Some other) = row_of role == row_of other

abbrev pub any_has_role : Role → List RoleWritten → Bool
any_has_role role written = list_any (λ one. is_role role one.role) written

-- no role, or one that an earlier attribute gives
abbrev pub is_bad : List RoleWritten → Option Role → Bool
is_bad earlier None = true
is_bad earlier (Some role) = any_has_role role earlier

-- the first attribute of which this is so, behind earlier ones
abbrev pub bad_role : List RoleWritten → List RoleWritten → Option RoleWritten
bad_role earlier [] = None
bad_role earlier (role ∷ roles) = if is_bad earlier role.role then Some role else bad_role (earlier ++ role ∷ []) roles

-- the second freestanding attribute
abbrev pub second_freestanding : List RoleWritten → Option RoleWritten
second_freestanding roles = slice_get (filter (λ role. role.freestanding) roles) 1

abbrev pub bad_names : List RoleWritten → Option RoleWritten
bad_names roles = find (λ role. is_none role.names) roles

abbrev pub bad_conformances : List RoleWritten → Option RoleWritten
bad_conformances roles = find (λ role. is_none role.conformances) roles

-- the first fault of a declaration, by whether its name is an earlier one's; of two of its attributes the earlier one counts
unfoldable pub first_fault : Bool → MacroWritten → Option Found
first_fault repeated written =
    option_or (at_name written kind.Duplicate repeated)
    (option_or (at_name written kind.NoRole (length written.roles == 0))
    (option_or (at_role kind.BadRole (bad_role [] written.roles))
    (option_or (at_role kind.BothFreestanding (second_freestanding written.roles))
    (option_or (at_role kind.BadNames (bad_names written.roles))
    (option_or (at_role kind.BadConformances (bad_conformances written.roles))
    (at_name written kind.NotExternal (is_none written.external)))))))

abbrev pub with_fault : MacroWritten → Option Found → List MacroFault → List MacroFault
with_fault written None faults = faults
with_fault written (Some found) faults = record { outline = written.outline; at = found.at; name = written.name; kind = found.kind } ∷ faults

abbrev pub is_among : List (List ℕ) → List ℕ → Bool
is_among names name = list_any (bytes_eq name) names

-- the first fault of each faulty declaration, behind declarations of these names
abbrev pub faults_from : List (List ℕ) → List MacroWritten → List MacroFault
faults_from before [] = []
faults_from before (written ∷ others) =
    with_fault written (first_fault (is_among before written.name) written) (faults_from (written.name ∷ before) others)
