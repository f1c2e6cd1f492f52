-- this project's own: what short lists stand for.
use Rattle.std.specs.Prelude.{List, [], Option, None, Some, Box, Vec}
use Rattle.std.specs.declared.alloc.Global.{Global}
use Rattle.swift_base.specs.declared.lists.Held.{Held}
use Rattle.swift_base.specs.declared.lists.Held.TheVariants.{Empty, One, Many}

abbrev pub small_values : {T : Type 0} → Held T → List T
small_values Empty = []
small_values (One value) = value
small_values (Many values) = values.value.items

abbrev pub thin_values : {T : Type 0} → Option (Box (Vec T Global) Global) → List T
thin_values None = []
thin_values (Some values) = values.value.items
