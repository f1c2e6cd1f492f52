-- Which kinds of declaration have no place in a file and among members: after The Swift Programming Language, Declarations.
use Rattle.std.specs.Prelude.{Bool, true, false}
use Rattle.swift_tree.specs.declared.item.Kind.{Kind}
use Rattle.swift_tree.specs.declared.item.Kind.TheVariants as kind
use Rattle.decl_parser.specs.declared.place.Place.{Place}
use Rattle.decl_parser.specs.declared.place.Place.TheVariants as place

abbrev pub has_place : Place → Kind → Bool
has_place place.File kind.Init = false
has_place place.File kind.Deinit = false
has_place place.File kind.Subscript = false
has_place place.File kind.Case = false
has_place place.File kind.Associatedtype = false
has_place place.Members kind.Import = false
has_place place.Members kind.Operator = false
has_place place.Members kind.Precedencegroup = false
has_place place.Members kind.Extension = false
has_place place.Members kind.Macro = false
has_place _ _ = true
