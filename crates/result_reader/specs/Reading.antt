-- What a macro's reply is read as, or its first fault: this project's own, after SE-0389 and SE-0397.
use Rattle.std.specs.Prelude.{ℕ, ◌&&◌, if◌then◌else◌, Bool, Option, Some, None, option_map, find, List, Result, Ok, Err}
use Rattle.std.specs.List.{list_any}
use Rattle.std.specs.Option.{option_or}
use Rattle.swift_base.specs.declared.place.Span.{Span}
use Rattle.swift_tree.specs.declared.outline.Shape.{Shape}
use Rattle.swift_tree.specs.declared.outline.Shape.TheVariants as shape
use Rattle.swift_tree.specs.Outlines.{ItemsSeen, OutlineSeen}
use Rattle.unique_names.specs.declared.role.Role.{Role}
use Rattle.unique_names.specs.declared.role.Role.TheVariants as role
use Rattle.element_marks.specs.Answers.{and_then}
use Rattle.decl_parser.specs.Outline.{OutlineOutcome, outline}
use Rattle.result_reader.specs.declared.reading.Reading.{Reading}
use Rattle.result_reader.specs.declared.fault.ResultFault.{ResultFault}
use Rattle.result_reader.specs.declared.fault.ResultKind.{ResultKind}
use Rattle.result_reader.specs.declared.fault.ResultKind.TheVariants.{Parse, ForbiddenKind, FileScopeArbitrary, Uncovered}
use Rattle.result_reader.specs.Fit.{text_at, is_forbidden, is_declaration, first_start, is_arbitrary, may_not_be_arbitrary}
use Rattle.result_reader.specs.Names.{names_of, is_uncovered, is_uncovered_observer}

abbrev pub ReadingOutcome : Type 0
ReadingOutcome = Result OutlineSeen ResultFault

-- as what the reply of a role is read
abbrev pub shape_of : Role → Shape
shape_of role.Expression = shape.Expression
shape_of role.MemberAttribute = shape.Attributes
shape_of role.Accessor = shape.Accessors
shape_of _ = shape.Items

abbrev pub fault_at : ResultKind → ℕ → ResultFault
fault_at kind at = record { at = at; kind = kind }

abbrev pub uncovered_at : List ℕ → Span → ResultFault
uncovered_at text name = fault_at (Uncovered (text_at text name)) name.start

-- whether the reply stands where its macro may have no names that only `arbitrary` covers
abbrev pub is_arbitrary_there : Reading → Bool
is_arbitrary_there reading = may_not_be_arbitrary reading.role && (reading.file_scope && list_any is_arbitrary reading.names.rules)

-- the first that has no place there
abbrev pub forbidden : Reading → List ℕ → ItemsSeen → Option ResultFault
forbidden reading text items = option_map (fault_at ForbiddenKind) (first_start (is_forbidden reading.file_scope text) items)

-- the first declaration, where none may stand
abbrev pub arbitrary : Reading → ItemsSeen → Option ResultFault
arbitrary reading items =
    if is_arbitrary_there reading then option_map (fault_at FileScopeArbitrary) (first_start (λ head. is_declaration head.kind) items) else None

-- the first fault of declarations: of their kinds, of their scope, of their names
abbrev pub items_fault : Reading → List ℕ → ItemsSeen → Option ResultFault
items_fault reading text items =
    option_or (forbidden reading text items)
    (option_or (arbitrary reading items) (option_map (uncovered_at text) (find (is_uncovered reading text) (names_of items))))

-- the first fault of a reply that has an outline
abbrev pub fault_by : Role → Reading → List ℕ → OutlineSeen → Option ResultFault
fault_by role.Declaration reading text seen = items_fault reading text seen.items
fault_by role.Member reading text seen = items_fault reading text seen.items
fault_by role.Peer reading text seen = items_fault reading text seen.items
fault_by role.Accessor reading text seen = option_map (uncovered_at text) (find (is_uncovered_observer reading text) seen.accessors)
fault_by _ reading text seen = None

-- the outline, or the fault where there is one
abbrev pub unless_fault : OutlineSeen → Option ResultFault → ReadingOutcome
unless_fault seen None = Ok seen
unless_fault seen (Some found) = Err found

abbrev pub parsed : OutlineOutcome → ReadingOutcome
parsed (Ok seen) = Ok seen
parsed (Err found) = Err (fault_at (Parse found.kind) found.at)

-- the reply's outline, or the first fault of its text, and then of what it holds
unfoldable pub reading_of : Reading → List ℕ → ReadingOutcome
reading_of reading text =
    and_then (parsed (outline text (shape_of reading.role))) (λ seen. unless_fault seen (fault_by reading.role reading text seen))
