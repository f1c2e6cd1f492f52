-- What the brackets of an element hold, read as declarations and as a pattern: this project's own words.
use Rattle.std.specs.Prelude.{List, [], ◌∷◌, Result, Ok}
use Rattle.swift_base.specs.declared.place.Span.{Span}
use Rattle.swift_tree.specs.Outlines.{ItemSeen}
use Rattle.decl_parser.specs.declared.fault.ParseFault.{ParseFault}

-- the declarations in a group's braces, or their first fault
abbrev pub MembersRead : Type 0
MembersRead = Result (List ItemSeen) ParseFault

-- the declarations of braces, and the names of a pattern's parentheses
pub record Held : Type 0 where
  pub members : MembersRead
  pub names : List Span

-- a token has no brackets
abbrev pub nothing_held : Held
nothing_held = record { members = Ok []; names = [] }

-- what the first element holds
abbrev pub first_held : List Held → Held
first_held [] = nothing_held
first_held (held ∷ others) = held
