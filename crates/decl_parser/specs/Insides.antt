-- What stands in the brackets of an element, as far as the elements around it have to know: this project's own words.
use Rattle.std.specs.Prelude.{◌≡◌, ℕ, List, [], ◌∷◌, length, take, Option, Some, None, Bool, false, ◌&&◌, if◌then◌else◌}
use Rattle.swift_tree.specs.declared.item.BlockShape.TheVariants as shape
use Rattle.element_marks.specs.declared.mark.Mark.{Mark}
use Rattle.element_marks.specs.Spans.{span_of}
use Rattle.std.specs.declared.vec.Vec.{Vec}
use Rattle.std.specs.declared.alloc.Global.{Global}
use Rattle.decl_parser.specs.declared.inside.Inside.{Inside}
use Rattle.decl_parser.specs.declared.inside.BlockAt.{BlockAt}

-- a token has nothing inside
abbrev pub nothing_inside : Inside
nothing_inside = record { observes = false; lists_accessors = false; uses = []; locals = [] }

-- nothing stands inside any of the elements
abbrev pub AreBlank : List Inside → Type 0
AreBlank [] = Unit {0}
AreBlank (inside ∷ insides) = (inside ≡ nothing_inside) × AreBlank insides

-- so many elements, and nothing inside any of them
abbrev pub IsBlankList : ℕ → List Inside → Type 0
IsBlankList count insides = AreBlank insides × (length insides ≡ count)

-- what stands inside so many elements: what is listed, or else nothing inside each
abbrev pub listed_or : List Inside → ℕ → Option (Vec Inside Global) → List Inside
listed_or blanks count None = take count blanks
listed_or blanks count (Some list) = list.items

-- what stands inside the first element
abbrev pub first_inside : List Inside → Inside
first_inside [] = nothing_inside
first_inside (inside ∷ insides) = inside

-- the block that stands first: of accessors, where it may list such and does, else of statements
abbrev pub block_here : Bool → List Mark → List Inside → Option BlockAt
block_here may_list [] insides = None
block_here may_list (braces ∷ marks) insides = Some (record { span = span_of braces; shape = if may_list && (first_inside insides).lists_accessors then shape.Accessors else shape.Body })
