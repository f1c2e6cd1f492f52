-- Laws of the macros of outlines.
use Rattle.std.specs.Prelude.{◌≡◌, Some, Ok, List, map}
use Rattle.swift_tree.specs.Outlines.{OutlineSeen}
use Rattle.macro_decls.specs.Macros.{macros, written_from}
use Rattle.macro_decls.specs.declared.table.MacroDecl.{MacroDecl}

-- a table has each macro of the outlines, in order, and no other
abbrev pub EachMacroDeclared : Type 0
EachMacroDeclared = (outlines : List OutlineSeen) (declarations : List MacroDecl) → macros outlines ≡ Ok declarations
    → map (λ d. d.name) declarations ≡ map (λ written. written.name) (written_from 0 outlines)

-- each with the role of each attribute that gives one, in order
abbrev pub EachRoleDeclared : Type 0
EachRoleDeclared = (outlines : List OutlineSeen) (declarations : List MacroDecl) → macros outlines ≡ Ok declarations
    → map (λ d. map (λ role. Some role.role) d.roles) declarations ≡ map (λ written. map (λ role. role.role) written.roles) (written_from 0 outlines)
