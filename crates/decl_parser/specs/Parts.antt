-- The parts of a declaration by its kind: after The Swift Programming Language, Declarations.
use Rattle.std.specs.Prelude.{ℕ, ◌-◌, List, [], ◌∷◌, ◌++◌, map, take, drop, Option, Some, None, Result, Ok, Err, Bool, true, false, ◌&&◌, not, if◌then◌else◌}
use Rattle.swift_base.specs.declared.place.Span.{Span}
use Rattle.swift_tree.specs.declared.item.BlockShape.TheVariants as shape
use Rattle.swift_tree.specs.declared.item.Kind.{Kind}
use Rattle.swift_tree.specs.declared.item.Kind.TheVariants as kind
use Rattle.element_marks.specs.declared.mark.Mark.{Mark}
use Rattle.element_marks.specs.declared.inherits.Stop.TheVariants as stop
use Rattle.element_marks.specs.Answers.{and_then}
use Rattle.element_marks.specs.Sorts.{is_name, is_word, is_operator, is_comma, is_braces}
use Rattle.element_marks.specs.Spans.{span_of, name_of, whole}
use Rattle.element_marks.specs.Heads.{first_is}
use Rattle.element_marks.specs.Inherits.{inherited, length_before}
use Rattle.element_marks.specs.Runs.{before}
use Rattle.decl_parser.specs.declared.fault.ParseFault.{ParseFault}
use Rattle.decl_parser.specs.declared.fault.ParseKind.TheVariants.{MissingName, MissingBlock}
use Rattle.decl_parser.specs.declared.inside.Inside.{Inside}
use Rattle.decl_parser.specs.declared.inside.BlockAt.{BlockAt}
use Rattle.decl_parser.specs.declared.bindings.Bound.{Bound}
use Rattle.decl_parser.specs.declared.parts.Parts.{Parts}
use Rattle.decl_parser.specs.Faults.{fault}
use Rattle.decl_parser.specs.Held.{Held}
use Rattle.decl_parser.specs.Insides.{block_here}
use Rattle.decl_parser.specs.Bindings.{bindings_from}

abbrev pub names_only : List Span → Parts
names_only names = record { names = names; bindings = []; inherits = []; extended = None; block = None; body = None; blocks = [] }

-- the name that has to stand first
abbrev pub first_name : Mark → List Mark → Result Span ParseFault
first_name starter [] = Err (fault starter.start MissingName)
first_name starter (name ∷ marks) = if is_name name then Ok (name_of name) else Err (fault starter.start MissingName)

-- an operator's name; a last `<` directly before a word begins the generic parameters
abbrev pub operator_name : Mark → List Mark → Span
operator_name name marks =
    if name.ends_angle && first_is (λ next. is_word next && not next.spaced) marks then record { start = name.start; end = name.end - 1 }
    else span_of name

abbrev pub function_name : Mark → List Mark → Result Span ParseFault
function_name starter [] = Err (fault starter.start MissingName)
function_name starter (name ∷ marks) =
    if is_name name then Ok (name_of name)
    else (if is_operator name then Ok (operator_name name marks) else Err (fault starter.start MissingName))

-- a type or an extension by its names, what it extends, what stands between its name and its braces, the place of these, and what stands from there on
abbrev pub with_members : Mark → List Span → Option Span → List Mark → ℕ → List Mark → Result Parts ParseFault
with_members starter names extended clause place [] = Err (fault starter.start MissingBlock)
with_members starter names extended clause place (braces ∷ marks) = Ok (record {
  names = names;
  bindings = [];
  inherits = inherited clause;
  extended = extended;
  block = Some (record { span = span_of braces; shape = shape.Members });
  body = Some place;
  blocks = braces.start ∷ [];
})

abbrev pub of_type : Mark → List Mark → Result Parts ParseFault
of_type starter marks =
    let place = before is_braces marks in
    and_then (first_name starter marks) (λ name. with_members starter (name ∷ []) None (drop 1 (take place marks)) place (drop place marks))

-- an extension by what it extends
abbrev pub extending : Mark → Option Span → List Mark → Result Parts ParseFault
extending starter None marks = Err (fault starter.start MissingName)
extending starter (Some extended) marks =
    let place = before is_braces marks in with_members starter [] (Some extended) (take place marks) place (drop place marks)

abbrev pub of_extension : Mark → List Mark → Result Parts ParseFault
of_extension starter marks = extending starter (whole (take (length_before stop.Extended 0 0 marks) marks)) marks

-- a function by its name, and by the place of its braces and what stands from there on
abbrev pub with_body : Bool → Span → ℕ → List Mark → List Inside → Parts
with_body may_list name place [] insides = names_only (name ∷ [])
with_body may_list name place (braces ∷ marks) insides =
    record (names_only (name ∷ [])) { block = block_here may_list (braces ∷ marks) insides; body = Some place; blocks = braces.start ∷ [] }

abbrev pub code : Bool → Span → List Mark → List Inside → Parts
code may_list name marks insides = let place = before is_braces marks in with_body may_list name place (drop place marks) (drop place insides)

abbrev pub of_function : Mark → List Mark → List Inside → Result Parts ParseFault
of_function starter marks insides = and_then (function_name starter marks) (λ name. Ok (code false name marks insides))

-- what was read before, and then the outcome of what is left
abbrev pub prefixed : {A F : Type 0} → List A → Result (List A) F → Result (List A) F
prefixed before outcome = and_then outcome (λ others. Ok (before ++ others))

-- behind a comma a name is wanted
abbrev pub comma_start : Mark → Option ℕ
comma_start mark = if is_comma mark then Some mark.start else None

-- the names of a case: behind `case` or a comma at `anchor`, where there is one
abbrev pub case_names : Option ℕ → List Mark → Result (List Span) ParseFault
case_names None [] = Ok []
case_names (Some anchor) [] = Err (fault anchor MissingName)
case_names None (mark ∷ marks) = case_names (comma_start mark) marks
case_names (Some anchor) (mark ∷ marks) =
    if is_name mark then prefixed (name_of mark ∷ []) (case_names None marks) else Err (fault anchor MissingName)

-- the block of the last binding counts as the declaration's
abbrev pub last_block : List Bound → Option BlockAt
last_block [] = None
last_block (bound ∷ []) = bound.block
last_block (bound ∷ next ∷ others) = last_block (next ∷ others)

abbrev pub block_start : Option BlockAt → List ℕ
block_start None = []
block_start (Some block) = block.span.start ∷ []

abbrev pub all_blocks : List Bound → List ℕ
all_blocks [] = []
all_blocks (bound ∷ others) = block_start bound.block ++ all_blocks others

abbrev pub all_names : List Bound → List Span
all_names [] = []
all_names (bound ∷ others) = bound.binding.names ++ all_names others

abbrev pub variable_parts : List Bound → Parts
variable_parts bounds = record (names_only (all_names bounds)) { bindings = map (λ bound. bound.binding) bounds; block = last_block bounds; blocks = all_blocks bounds }

abbrev pub named : Mark → List Mark → Result Parts ParseFault
named starter marks = and_then (first_name starter marks) (λ name. Ok (names_only (name ∷ [])))

abbrev pub of_variable : Mark → List Mark → List Inside → List Held → Result Parts ParseFault
of_variable starter marks insides held = and_then (bindings_from (Some starter.start) 0 marks insides held) (λ bounds. Ok (variable_parts bounds))

abbrev pub of_case : Mark → List Mark → Result Parts ParseFault
of_case starter marks = and_then (case_names (Some starter.start) marks) (λ names. Ok (names_only names))

-- one row a kind: the parts by the starter and what stands behind it
abbrev pub parts : Kind → Mark → List Mark → List Inside → List Held → Result Parts ParseFault
parts kind.Import starter marks insides held = Ok (names_only [])
parts kind.Typealias starter marks insides held = named starter marks
parts kind.Associatedtype starter marks insides held = named starter marks
parts kind.Struct starter marks insides held = of_type starter marks
parts kind.Class starter marks insides held = of_type starter marks
parts kind.Enum starter marks insides held = of_type starter marks
parts kind.Protocol starter marks insides held = of_type starter marks
parts kind.Extension starter marks insides held = of_extension starter marks
parts kind.Func starter marks insides held = of_function starter marks insides
parts kind.Var starter marks insides held = of_variable starter marks insides held
parts kind.Let starter marks insides held = of_variable starter marks insides held
parts kind.Init starter marks insides held = Ok (code false (span_of starter) marks insides)
parts kind.Deinit starter marks insides held = Ok (code false (span_of starter) marks insides)
parts kind.Subscript starter marks insides held = Ok (code true (span_of starter) marks insides)
parts kind.Case starter marks insides held = of_case starter marks
parts kind.Operator starter marks insides held = Ok (names_only [])
parts kind.Precedencegroup starter marks insides held = Ok (names_only [])
parts kind.Actor starter marks insides held = of_type starter marks
parts kind.Macro starter marks insides held = named starter marks
parts kind.UseItem starter marks insides held = Ok (names_only [])

-- the kinds whose block holds declarations
abbrev pub has_members : Kind → Bool
has_members kind.Struct = true
has_members kind.Class = true
has_members kind.Enum = true
has_members kind.Protocol = true
has_members kind.Extension = true
has_members kind.Actor = true
has_members _ = false
