-- this project's own: the letter and the text of each role, as the table of roles has them.
use Rattle.std.specs.Prelude.{ℕ, List, [], ◌∷◌, map, get_or, Option, Some, None, if◌then◌else◌}
use Rattle.std.specs.Str.{bytes_eq}
use Rattle.unique_names.specs.declared.role.Role.{Role}
use Rattle.unique_names.specs.declared.role.Role.TheVariants.{Expression, Declaration, Accessor, MemberAttribute, Member, Peer, Extension}
use Rattle.unique_names.specs.declared.role.TheConstants.{ROLES}

-- its row in the table, from 0
abbrev pub row_of : Role → ℕ
row_of Expression = 0
row_of Declaration = 1
row_of Accessor = 2
row_of MemberAttribute = 3
row_of Member = 4
row_of Peer = 5
row_of Extension = 6

abbrev pub letter_of : Role → ℕ
letter_of role = get_or (map (λ row. row.1) ROLES) (row_of role) 0

abbrev pub text_of : Role → List ℕ
text_of role = get_or (map (λ row. row.2.now) ROLES) (row_of role) []

-- what the first of these rows that has this text is for
abbrev pub among : {Row A : Type 0} → (Row → A) → (Row → List ℕ) → List Row → List ℕ → Option A
among own words [] text = None
among own words (row ∷ rows) text = if bytes_eq (words row) text then Some (own row) else among own words rows text

-- the role whose text this is
abbrev pub role_of : List ℕ → Option Role
role_of = among (λ row. row.0) (λ row. row.2.now) ROLES
