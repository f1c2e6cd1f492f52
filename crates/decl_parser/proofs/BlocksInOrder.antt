-- The block of a declaration is one of its elements.
use Rattle.std.proofs.Common.{◌≡◌, refl, ℕ, zero, suc, ◌-◌, ◌==◌, List, [], ◌∷◌, length, take, drop, Option, Some, None, Bool, true, false, ◌&&◌, if◌then◌else◌}
use Rattle.swift_base.specs.declared.place.Span.{Span}
use Rattle.swift_tree.specs.declared.item.BlockShape.{BlockShape}
use Rattle.swift_tree.specs.declared.item.BlockShape.TheVariants as shape
use Rattle.swift_tree.specs.declared.item.Kind.{Kind}
use Rattle.swift_tree.specs.declared.item.Kind.TheVariants as kind
use Rattle.element_marks.specs.declared.mark.Mark.{Mark}
use Rattle.element_marks.specs.declared.inherits.Stop.TheVariants as stop
use Rattle.element_marks.specs.Sorts.{is_colon, is_equals, is_braces, is_pattern}
use Rattle.element_marks.specs.Spans.{span_of, whole}
use Rattle.element_marks.specs.Inherits.{length_before}
use Rattle.element_marks.specs.Runs.{before, binding_length}
use Rattle.decl_parser.specs.declared.inside.Inside.{Inside}
use Rattle.decl_parser.specs.declared.inside.BlockAt.{BlockAt}
use Rattle.decl_parser.specs.declared.parts.Parts.{Parts}
use Rattle.decl_parser.specs.declared.bindings.Bound.{Bound}
use Rattle.decl_parser.specs.declared.bindings.Tail.{Tail}
use Rattle.decl_parser.specs.Held.{Held}
use Rattle.decl_parser.specs.Insides.{first_inside, block_here}
use Rattle.decl_parser.specs.Bindings.{has_observers, with_initializer, blocked, without_initializer, by_equals, tail_of, binding_of, bindings_from, type_before}
use Rattle.decl_parser.specs.Parts.{with_members, of_type, extending, of_extension, with_body, code, first_name, function_name, case_names, last_block, named, of_variable, parts, has_members}
use Rattle.decl_parser.specs.Nesting.{Between}
use Rattle.decl_parser.proofs.Ordered.{InOrder, mark_lies, lies_take, lies_drop}
use Rattle.decl_parser.proofs.Outcomes.{OkHolds, ok_then, ok_if, ok_at}

abbrev pub NotMembers : BlockShape → Type 0
NotMembers shape.Members = ⊥
NotMembers _ = Unit {0}

abbrev pub BlockBetween : ℕ → ℕ → Option BlockAt → Type 0
BlockBetween from to None = Unit {0}
BlockBetween from to (Some at) = Between from to at.span × NotMembers at.shape

-- the members stand in the first braces
pub record TypeBlock (marks : List Mark) (parts : Parts) : Type 0 where
  pub braces : Mark
  pub others : List Mark
  pub here : drop (before is_braces marks) marks ≡ braces ∷ others
  pub block : parts.block ≡ Some (record { span = span_of braces; shape = shape.Members })
  pub body : parts.body ≡ Some (before is_braces marks)
  pub blocks : parts.blocks ≡ braces.start ∷ []

-- by whether there are members
abbrev pub BlockFits : Bool → ℕ → ℕ → List Mark → Parts → Type 0
BlockFits true from to marks parts = TypeBlock marks parts
BlockFits false from to marks parts = BlockBetween from to parts.block

module _ (from to : ℕ) where
  block_here_lies : (may_list : Bool) (marks : List Mark) (insides : List Inside) → InOrder from marks to → BlockBetween from to (block_here may_list marks insides)
  block_here_lies may_list [] insides lies = tt
  block_here_lies may_list (braces ∷ marks) insides lies = (mark_lies from to braces marks lies, no_members (may_list && (first_inside insides).lists_accessors))
    where
      no_members : (b : Bool) → NotMembers (if b then shape.Accessors else shape.Body)
      no_members true = tt
      no_members false = tt

  abbrev TailFits : Tail → Type 0
  TailFits tail = BlockBetween from to tail.block

  initialized : (type_span : Option Span) (equals : ℕ) (marks : List Mark) (insides : List Inside) → InOrder from marks to → OkHolds TailFits (with_initializer type_span equals marks insides)
  initialized type_span equals marks insides lies =
      ok_if TailFits (length marks == 0) _ _ (λ is. tt) (λ is. ok_if TailFits (has_observers marks insides) _ _
      (λ observed. block_here_lies true (drop (length marks - 1) marks) (drop (length marks - 1) insides) (lies_drop (length marks - 1) from to marks lies)) (λ plain. tt))

  blocked_fits : (type_span : Option Span) (marks : List Mark) (insides : List Inside) → InOrder from marks to → OkHolds TailFits (blocked type_span marks insides)
  blocked_fits type_span [] insides lies = tt
  blocked_fits type_span (block ∷ marks) insides lies = ok_if TailFits (is_braces block && length marks == 0) _ _ (λ is. block_here_lies true (block ∷ marks) insides lies) (λ is. tt)

  uninitialized : (marks : List Mark) (insides : List Inside) → InOrder from marks to → OkHolds TailFits (without_initializer marks insides)
  uninitialized [] insides lies = tt
  uninitialized (colon ∷ marks) insides lies =
      ok_if TailFits (is_colon colon) _ _
      (λ is. blocked_fits (whole (take (before is_braces marks) marks)) (drop (before is_braces marks) marks) (drop (before is_braces marks) (drop 1 insides)) (lies_drop (before is_braces marks) from to marks (lies_drop 1 from to (colon ∷ marks) lies)))
      (λ is. blocked_fits None (colon ∷ marks) insides lies)

  by_equals_fits : (marks : List Mark) (insides : List Inside) (init : List Mark) (from_equals : List Inside) → InOrder from marks to → InOrder from init to → OkHolds TailFits (by_equals marks insides init from_equals)
  by_equals_fits marks insides [] from_equals lies rest = uninitialized marks insides lies
  by_equals_fits marks insides (equals ∷ init) from_equals lies rest =
      ok_then TailFits (type_before (take (before is_equals marks) marks)) _ (λ type_span is. initialized type_span equals.start init (drop 1 from_equals) (lies_drop 1 from to (equals ∷ init) rest))

  abbrev BoundFits : Bound → Type 0
  BoundFits bound = BlockBetween from to bound.block

  bound_fits : (marks : List Mark) (insides : List Inside) (held : List Held) → InOrder from marks to → OkHolds BoundFits (binding_of marks insides held)
  bound_fits [] insides held lies = tt
  bound_fits (pattern_ ∷ marks) insides held lies =
      let rest = lies_drop 1 from to (pattern_ ∷ marks) lies in
      ok_if BoundFits (is_pattern pattern_) _ _
      (λ is. ok_then BoundFits (tail_of marks (drop 1 insides)) _ (λ tail found. ok_at TailFits (tail_of marks (drop 1 insides)) tail found
      (by_equals_fits marks (drop 1 insides) (drop (before is_equals marks) marks) (drop (before is_equals marks) (drop 1 insides)) rest (lies_drop (before is_equals marks) from to marks rest))))
      (λ is. tt)

  abbrev BoundsFit : List Bound → Type 0
  BoundsFit [] = Unit {0}
  BoundsFit (first ∷ others) = BoundFits first × BoundsFit others

  bounds_fit : (anchor : Option ℕ) (inside : ℕ) (marks : List Mark) (insides : List Inside) (held : List Held) → InOrder from marks to → OkHolds BoundsFit (bindings_from anchor inside marks insides held)
  bounds_fit None inside [] insides held lies = tt
  bounds_fit (Some anchor) inside [] insides held lies = tt
  bounds_fit None (suc inside) (mark ∷ marks) insides held lies = bounds_fit None inside marks (drop 1 insides) (drop 1 held) (lies_drop 1 from to (mark ∷ marks) lies)
  bounds_fit None zero (comma ∷ marks) insides held lies = bounds_fit (Some comma.start) 0 marks (drop 1 insides) (drop 1 held) (lies_drop 1 from to (comma ∷ marks) lies)
  bounds_fit (Some anchor) inside (pattern_ ∷ marks) insides held lies =
      let behind = binding_length false 0 0 marks in
      ok_then BoundsFit (binding_of (pattern_ ∷ take behind marks) insides held) _ (λ first is.
      ok_then BoundsFit (bindings_from None behind marks (drop 1 insides) (drop 1 held)) _ (λ others are. (
        ok_at BoundFits (binding_of (pattern_ ∷ take behind marks) insides held) first is (bound_fits (pattern_ ∷ take behind marks) insides held (lies_take (suc behind) from to (pattern_ ∷ marks) lies)),
        ok_at BoundsFit (bindings_from None behind marks (drop 1 insides) (drop 1 held)) others are (bounds_fit None behind marks (drop 1 insides) (drop 1 held) (lies_drop 1 from to (pattern_ ∷ marks) lies)),
      )))

  last_fits : (bounds : List Bound) → BoundsFit bounds → BlockBetween from to (last_block bounds)
  last_fits [] fits = tt
  last_fits (bound ∷ []) fits = fits.0
  last_fits (bound ∷ next ∷ others) fits = last_fits (next ∷ others) fits.1

  abbrev PlainFits : Parts → Type 0
  PlainFits parts = BlockBetween from to parts.block

  body_fits : (may_list : Bool) (name : Span) (place : ℕ) (marks : List Mark) (insides : List Inside) → InOrder from marks to → PlainFits (with_body may_list name place marks insides)
  body_fits may_list name place [] insides lies = tt
  body_fits may_list name place (braces ∷ marks) insides lies = block_here_lies may_list (braces ∷ marks) insides lies

  code_fits : (may_list : Bool) (name : Span) (marks : List Mark) (insides : List Inside) → InOrder from marks to → PlainFits (code may_list name marks insides)
  code_fits may_list name marks insides lies =
      let place = before is_braces marks in body_fits may_list name place (drop place marks) (drop place insides) (lies_drop place from to marks lies)

  members_fit : (starter : Mark) (names : List Span) (extended : Option Span) (clause : List Mark) (marks rest : List Mark) → drop (before is_braces marks) marks ≡ rest → OkHolds (TypeBlock marks) (with_members starter names extended clause (before is_braces marks) rest)
  members_fit starter names extended clause marks [] is = tt
  members_fit starter names extended clause marks (braces ∷ others) is = record { braces = braces; others = others; here = is; block = refl; body = refl; blocks = refl }

  type_fits : (starter : Mark) (marks : List Mark) → OkHolds (TypeBlock marks) (of_type starter marks)
  type_fits starter marks =
      ok_then (TypeBlock marks) (first_name starter marks) _ (λ name is. members_fit starter (name ∷ []) None (drop 1 (take (before is_braces marks) marks)) marks (drop (before is_braces marks) marks) refl)

  extending_fits : (starter : Mark) (extended : Option Span) (marks : List Mark) → OkHolds (TypeBlock marks) (extending starter extended marks)
  extending_fits starter None marks = tt
  extending_fits starter (Some extended) marks = members_fit starter [] (Some extended) (take (before is_braces marks) marks) marks (drop (before is_braces marks) marks) refl

  extension_fits : (starter : Mark) (marks : List Mark) → OkHolds (TypeBlock marks) (of_extension starter marks)
  extension_fits starter marks = extending_fits starter (whole (take (length_before stop.Extended 0 0 marks) marks)) marks

  named_fits : (starter : Mark) (marks : List Mark) → OkHolds PlainFits (named starter marks)
  named_fits starter marks = ok_then PlainFits (first_name starter marks) _ (λ name is. tt)

  variable_fits : (starter : Mark) (marks : List Mark) (insides : List Inside) (held : List Held) → InOrder from marks to → OkHolds PlainFits (of_variable starter marks insides held)
  variable_fits starter marks insides held lies =
      ok_then PlainFits (bindings_from (Some starter.start) 0 marks insides held) _ (λ bounds is. last_fits bounds (ok_at BoundsFit (bindings_from (Some starter.start) 0 marks insides held) bounds is (bounds_fit (Some starter.start) 0 marks insides held lies)))

  -- one row a kind
  pub parts_fit : (of_kind : Kind) (starter : Mark) (marks : List Mark) (insides : List Inside) (held : List Held) → InOrder from marks to → OkHolds (BlockFits (has_members of_kind) from to marks) (parts of_kind starter marks insides held)
  parts_fit kind.Import starter marks insides held lies = tt
  parts_fit kind.Typealias starter marks insides held lies = named_fits starter marks
  parts_fit kind.Associatedtype starter marks insides held lies = named_fits starter marks
  parts_fit kind.Struct starter marks insides held lies = type_fits starter marks
  parts_fit kind.Class starter marks insides held lies = type_fits starter marks
  parts_fit kind.Enum starter marks insides held lies = type_fits starter marks
  parts_fit kind.Protocol starter marks insides held lies = type_fits starter marks
  parts_fit kind.Extension starter marks insides held lies = extension_fits starter marks
  parts_fit kind.Func starter marks insides held lies = ok_then PlainFits (function_name starter marks) _ (λ name is. code_fits false name marks insides lies)
  parts_fit kind.Var starter marks insides held lies = variable_fits starter marks insides held lies
  parts_fit kind.Let starter marks insides held lies = variable_fits starter marks insides held lies
  parts_fit kind.Init starter marks insides held lies = code_fits false (span_of starter) marks insides lies
  parts_fit kind.Deinit starter marks insides held lies = code_fits false (span_of starter) marks insides lies
  parts_fit kind.Subscript starter marks insides held lies = code_fits true (span_of starter) marks insides lies
  parts_fit kind.Case starter marks insides held lies = ok_then PlainFits (case_names (Some starter.start) marks) _ (λ names is. tt)
  parts_fit kind.Operator starter marks insides held lies = tt
  parts_fit kind.Precedencegroup starter marks insides held lies = tt
  parts_fit kind.Actor starter marks insides held lies = type_fits starter marks
  parts_fit kind.Macro starter marks insides held lies = named_fits starter marks
  parts_fit kind.UseItem starter marks insides held lies = tt
