-- this project's own: what holds of all keys and roles.
use Rattle.std.specs.Prelude.{◌≡◌, ℕ, List, [], ◌∷◌, map, codes, Some}
use Rattle.std.specs.Bool.{Decides}
use Rattle.std.specs.Cmp.Lexicographic.{pointwise}
use Rattle.unique_names.specs.declared.role.Role.{Role}
use Rattle.unique_names.specs.declared.role.Role.TheVariants.{Expression, Declaration, Accessor, MemberAttribute, Member, Peer, Extension}
use Rattle.unique_names.specs.declared.role.TheConstants.{ROLES}
use Rattle.unique_names.specs.declared.step.KeyStep.{KeyStep}
use Rattle.unique_names.specs.Roles.{text_of, role_of}
use Rattle.unique_names.specs.Steps.{step_eq}

-- `==` of keys holds exactly of the same key
abbrev pub EqualKeysAreOne : Type 0
EqualKeysAreOne = (a b : List KeyStep) → Decides (pointwise step_eq a b) (a ≡ b)

-- a role's text is no other's
abbrev pub TextsTellRoles : Type 0
TextsTellRoles = (role : Role) → role_of (text_of role) ≡ Some role

-- each role, its letter and its text, apart from the table that the definitions share with the code
abbrev pub role_words : List (Role × List ℕ × List ℕ)
role_words =
    (Expression, codes "e", codes "expression") ∷
    (Declaration, codes "d", codes "declaration") ∷
    (Accessor, codes "a", codes "accessor") ∷
    (MemberAttribute, codes "t", codes "memberAttribute") ∷
    (Member, codes "m", codes "member") ∷
    (Peer, codes "p", codes "peer") ∷
    (Extension, codes "x", codes "extension") ∷ []

abbrev pub RolesAreSpelled : Type 0
RolesAreSpelled = map (λ row. (row.0, row.1 ∷ [], row.2.now)) ROLES ≡ role_words
