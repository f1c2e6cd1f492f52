-- Laws of replies: this project's own, and SE-0389 on names.
use Rattle.std.specs.Prelude.{◌≡◌, ℕ, true, All, List, None, Ok}
use Rattle.swift_tree.specs.Outlines.{OutlineSeen}
use Rattle.decl_parser.specs.Outline.{outline}
use Rattle.result_reader.specs.declared.reading.Reading.{Reading}
use Rattle.result_reader.specs.Fit.{text_at, makes_declarations}
use Rattle.result_reader.specs.Names.{may_make, names_of}
use Rattle.result_reader.specs.Reading.{shape_of, fault_by, reading_of}

-- A reply that is read has the outline of its text, in which there is no fault.
abbrev pub KeepsTheOutline : Type 0
KeepsTheOutline = (reading : Reading) (text : List ℕ) (seen : OutlineSeen) → reading_of reading text ≡ Ok seen
    → (outline text (shape_of reading.role) ≡ Ok seen) × (fault_by reading.role reading text seen ≡ None)

-- A reply of declarations that is read declares only names that its macro may make.
abbrev pub DeclaresItsNames : Type 0
DeclaresItsNames = (reading : Reading) (text : List ℕ) (seen : OutlineSeen) → makes_declarations reading.role ≡ true → reading_of reading text ≡ Ok seen
    → All (λ name. may_make reading (text_at text name) ≡ true) (names_of seen.items)
