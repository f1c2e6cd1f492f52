-- this project's own: what few declarations have.
use Rattle.std.specs.Prelude.{[], Option, None, Some, Box}
use Rattle.std.specs.declared.alloc.Global.{Global}
use Rattle.swift_tree.specs.declared.item.FurtherParts.{FurtherParts}

-- none of it
abbrev pub nothing_further : FurtherParts
nothing_further = record { attrs = []; inherits = []; extended = None; uses = []; locals = [] }

abbrev pub further_parts : Option (Box FurtherParts Global) → FurtherParts
further_parts None = nothing_further
further_parts (Some parts) = parts.value
