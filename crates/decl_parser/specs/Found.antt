-- The macro uses and the attributes of elements, at every depth: this project's own.
use Rattle.std.specs.Prelude.{ℕ, zero, suc, nat_lt, List, [], ◌∷◌, ◌++◌, length, reverse, take, drop, if◌then◌else◌}
use Rattle.std.specs.List.{flat_map}
use Rattle.swift_tree.specs.declared.item.MacroUse.{MacroUse}
use Rattle.swift_tree.specs.declared.item.Attr.{Attr}
use Rattle.element_marks.specs.declared.mark.Mark.{Mark}
use Rattle.element_marks.specs.Heads.{by_length, attribute_length}
use Rattle.element_marks.specs.Uses.{use_length}
use Rattle.decl_parser.specs.declared.inside.Inside.{Inside}
use Rattle.decl_parser.specs.declared.found.Findings.{Findings}
use Rattle.decl_parser.specs.Insides.{first_inside}
use Rattle.decl_parser.specs.Attributes.{use_of, attr_of}

-- the attributes of the declaration itself, and the uses and the attributes in it
pub record Found : Type 0 where
  pub attrs : List Attr
  pub uses : List MacroUse
  pub locals : List Attr

-- what a call found
abbrev pub seen : Findings → Found
seen findings = record { attrs = findings.attrs.items; uses = findings.uses.items; locals = findings.locals.items }

abbrev pub nothing : Found
nothing = record { attrs = []; uses = []; locals = [] }

abbrev pub joined : Found → Found → Found
joined one other = record { attrs = one.attrs ++ other.attrs; uses = one.uses ++ other.uses; locals = one.locals ++ other.locals }

-- what begins with an element, and how many elements of it follow
pub record Step : Type 0 where
  pub more : ℕ
  pub found : Found

-- an attribute that begins here
abbrev pub local_attributes : List Mark → List Inside → List Attr
local_attributes marks insides = by_length (attribute_length marks) [] (λ more. attr_of marks insides ∷ [])

-- what stands inside the element
abbrev pub within : List Inside → Found
within insides = record { attrs = []; uses = (first_inside insides).uses; locals = (first_inside insides).locals }

-- a use or an attribute of the declaration's own is one step; else an attribute here, and what stands inside the element.
-- Attributes that begin before the place `own` are the declaration's own; `list` ends with the elements looked through
abbrev pub found_step : List ℕ → ℕ → List Mark → ℕ → List Inside → Step
found_step blocks own list at insides =
    let marks = drop at list in
    by_length (use_length blocks (reverse (take at list)) marks)
    (by_length (if nat_lt at own then attribute_length marks else 0)
    (record { more = 0; found = record { attrs = []; uses = (first_inside insides).uses; locals = local_attributes marks insides ++ (first_inside insides).locals } })
    (λ more. record { more = more; found = record { attrs = attr_of marks insides ∷ []; uses = []; locals = [] } }))
    (λ more. record { more = more; found = record { attrs = []; uses = use_of (take (suc more) marks) ∷ []; locals = [] } })

-- in the last `left` elements of a list, from the place `at` on and past `inside` elements of what began before;
-- `insides` are those of the last `left` elements
abbrev pub found_from : List ℕ → ℕ → List Mark → ℕ → ℕ → ℕ → List Inside → Found
found_from blocks own list at inside zero insides = nothing
found_from blocks own list at (suc inside) (suc left) insides = found_from blocks own list (suc at) inside left (drop 1 insides)
found_from blocks own list at zero (suc left) insides =
    joined (found_step blocks own list at insides).found (found_from blocks own list (suc at) (found_step blocks own list at insides).more left (drop 1 insides))

-- in a whole list
unfoldable pub found_in : List Mark → List Inside → Found
found_in marks insides = found_from [] 0 marks 0 0 (length marks) insides

-- what stands inside the elements
abbrev pub all_within : List Inside → Found
all_within insides = record { attrs = []; uses = flat_map (λ inside. inside.uses) insides; locals = flat_map (λ inside. inside.locals) insides }
