-- What the files of a command mean: a source with its macros, or a refusal. This project's own, after SE-0382 and SE-0389.
use Rattle.std.specs.Prelude.{ℕ, Option, Some, None, Result, Ok, Err, List, [], ◌∷◌, ◌++◌, slice_get}
use Rattle.std.specs.List.{flat_map}
use Rattle.swift_tree.specs.declared.outline.Shape.TheVariants.{File}
use Rattle.swift_tree.specs.Outlines.{OutlineSeen}
use Rattle.decl_parser.specs.Outline.{OutlineOutcome, outline}
use Rattle.macro_decls.specs.Macros.{macros}
use Rattle.macro_decls.specs.declared.fault.MacroFault.{MacroFault}
use Rattle.macro_decls.specs.declared.table.MacroDecl.{MacroDecl}
use Rattle.expand_top.specs.Faults.{fault_text, macro_fault_text, too_large}
use Rattle.expand_top.specs.Lines.{Output, error_at, faults, refuses, refuses_at, unread}
use Rattle.expand_top.specs.declared.ended.Inputs.{Inputs}
use Rattle.expand_top.specs.declared.ended.SourceRead.{SourceRead}
use Rattle.expand_top.specs.declared.ended.SourceRead.TheVariants as read
use Rattle.expand_top.specs.declared.texts.NamedText as code

-- a file by its name and its bytes
pub record NamedText : Type 0 where
  pub name : List ℕ
  pub text : List ℕ

abbrev pub named_seen : code.NamedText → NamedText
named_seen named = record { name = named.name.now; text = named.text.now }

pub data Meaning : Type 0 where
  Refused : Output → Meaning
  Means : OutlineSeen → List MacroDecl → Meaning

-- the source, where the files mean one
abbrev pub source_of : Meaning → Option OutlineSeen
source_of (Refused output) = None
source_of (Means source macros) = Some source

-- a fault stands in the file of its number
abbrev pub line_in : Option NamedText → MacroFault → List ℕ
line_in None fault = []
line_in (Some named) fault = error_at named.name named.text fault.at (macro_fault_text fault.kind fault.name)

abbrev pub fault_line : List NamedText → MacroFault → List ℕ
fault_line files fault = line_in (slice_get files fault.outline) fault

abbrev pub fault_lines : List NamedText → List MacroFault → List ℕ
fault_lines files found = flat_map (fault_line files) found

abbrev pub by_table : List NamedText → OutlineSeen → Result (List MacroDecl) (List MacroFault) → Meaning
by_table files source (Ok declared) = Means source declared
by_table files source (Err found) = Refused (faults (fault_lines files found))

-- a source that was read, behind the macros file where there is one
unfoldable pub table_meaning : List NamedText → List OutlineSeen → OutlineSeen → Meaning
table_meaning files before source = by_table files source (macros (before ++ source ∷ []))

abbrev pub by_outline : List NamedText → List OutlineSeen → NamedText → OutlineOutcome → Meaning
by_outline files before source (Ok seen) = table_meaning (files ++ source ∷ []) before seen
by_outline files before source (Err fault) = Refused (refuses_at source.name source.text fault.at (fault_text fault.kind))

unfoldable pub source_meaning : List NamedText → List OutlineSeen → NamedText → Meaning
source_meaning files before source = by_outline files before source (outline source.text File)

abbrev pub by_macros : NamedText → NamedText → OutlineOutcome → Meaning
by_macros file source (Ok seen) = source_meaning (file ∷ []) (seen ∷ []) source
by_macros file source (Err fault) = Refused (refuses_at file.name file.text fault.at (fault_text fault.kind))

-- the macros file is read first
abbrev pub text_meaning : Option NamedText → NamedText → Meaning
text_meaning None source = source_meaning [] [] source
text_meaning (Some file) source = by_macros file source (outline file.text File)

-- a source by how it was read
abbrev pub by_source : List ℕ → Option NamedText → SourceRead → Meaning
by_source name file read.Nothing = Refused (unread name)
by_source name file read.Failed = Refused (unread name)
by_source name file read.Larger = Refused (refuses name 1 1 too_large)
by_source name file (read.Bytes text) = text_meaning file (record { name = name; text = text })

-- the macros file by how it was read, and then the source
abbrev pub by_file : List ℕ → List ℕ → SourceRead → SourceRead → Meaning
by_file file name read.Nothing source = Refused (unread file)
by_file file name read.Failed source = Refused (unread file)
by_file file name read.Larger source = Refused (refuses file 1 1 too_large)
by_file file name (read.Bytes text) source = by_source name (Some (record { name = file; text = text })) source

-- what the files of a command mean, by how they were read
abbrev pub meaning_of : Option (List ℕ) → List ℕ → Inputs → Meaning
meaning_of None name inputs = by_source name None inputs.source
meaning_of (Some file) name inputs = by_file file name inputs.macros inputs.source
