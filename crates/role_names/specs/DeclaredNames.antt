-- The names that a declaration declares: after The Swift Programming Language, Declarations, and this project's own for extensions.
use Rattle.std.specs.Prelude.{List, [], ◌++◌}
use Rattle.swift_base.specs.declared.place.Span.{Span}
use Rattle.swift_tree.specs.declared.item.Kind.{Kind}
use Rattle.swift_tree.specs.declared.item.Kind.TheVariants.{Extension}
use Rattle.swift_tree.specs.declared.item.BlockShape.TheVariants.{Members}
use Rattle.swift_tree.specs.Outlines.{ItemSeen, item, BlockSeen, no_block, block, ItemsSeen, none, cons}

-- a declaration's own names
abbrev pub own_names : ItemSeen → List Span
own_names (item head inside) = head.names

-- those of declarations in a row
abbrev pub names_in_row : ItemsSeen → List Span
names_in_row none = []
names_in_row (cons first rest) = own_names first ++ names_in_row rest

-- those of the members in a block
abbrev pub member_names : BlockSeen → List Span
member_names no_block = []
member_names (block span Members members) = names_in_row members
member_names (block span _ members) = []

-- an extension has no name of its own, and declares what its members do
abbrev pub names_by_kind : Kind → List Span → BlockSeen → List Span
names_by_kind Extension own inside = member_names inside
names_by_kind _ own inside = own

abbrev pub declared_names : ItemSeen → List Span
declared_names (item head inside) = names_by_kind head.kind head.names inside
