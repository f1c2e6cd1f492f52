-- The bindings of `var` and `let`: after The Swift Programming Language, Declarations; where each ends is this project's own.
use Rattle.std.specs.Prelude.{ℕ, zero, suc, ◌-◌, ◌==◌, nat_lt, List, [], ◌∷◌, ◌++◌, take, drop, length, Option, Some, None, Result, Ok, Err, Bool, true, false, ◌&&◌, not, if◌then◌else◌}
use Rattle.swift_base.specs.declared.place.Span.{Span}
use Rattle.swift_lexer.specs.Trees.{Tree, Forest, leaf, nest, none, cons}
use Rattle.element_marks.specs.declared.mark.Mark.{Mark}
use Rattle.element_marks.specs.Levels.{own_marks}
use Rattle.element_marks.specs.Marks.{mark_of}
use Rattle.element_marks.specs.Answers.{and_then}
use Rattle.element_marks.specs.Words.{is_underscore}
use Rattle.element_marks.specs.Sorts.{is_name, is_colon, is_equals, is_parentheses, is_braces, is_pattern}
use Rattle.element_marks.specs.Spans.{name_of, end_of, whole}
use Rattle.element_marks.specs.Heads.{first_is}
use Rattle.element_marks.specs.Runs.{before, binding_length}
use Rattle.decl_parser.specs.declared.fault.ParseFault.{ParseFault}
use Rattle.decl_parser.specs.declared.fault.ParseKind.TheVariants.{BadBinding}
use Rattle.decl_parser.specs.declared.inside.Inside.{Inside}
use Rattle.decl_parser.specs.declared.bindings.Tail.{Tail}
use Rattle.decl_parser.specs.declared.bindings.Bound.{Bound}
use Rattle.decl_parser.specs.Faults.{fault}
use Rattle.decl_parser.specs.Held.{Held, first_held}
use Rattle.decl_parser.specs.Insides.{first_inside, block_here}

-- the names that a part of a pattern's parentheses gives, which holds the names `inner`, and behind which `marks` stand; a label is none
abbrev pub names_here : Mark → List Mark → List Span → List Span
names_here mark marks inner =
    if is_parentheses mark then inner
    else (if is_name mark && not (is_underscore mark.keyword) && not (first_is is_colon marks) then name_of mark ∷ [] else [])

unfoldable mutual
  -- the names in an element's brackets, where they are a pattern's parentheses
  pub names_inside : List ℕ → Tree → List Span
  names_inside text (leaf token) = []
  names_inside text (nest left inner right) = names_of text inner

  -- the names of the elements in a pattern's parentheses
  pub names_of : List ℕ → Forest → List Span
  names_of text none = []
  names_of text (cons tree forest) = names_here (mark_of text tree) (own_marks text forest) (names_inside text tree) ++ names_of text forest

-- the names of a pattern
abbrev pub pattern_names : Mark → List Held → List Span
pattern_names pattern held = if is_parentheses pattern then (first_held held).names else (if is_underscore pattern.keyword then [] else name_of pattern ∷ [])

-- what stands before a binding's `=` is nothing, or a colon and a type
abbrev pub type_before : List Mark → Result (Option Span) ParseFault
type_before [] = Ok None
type_before (colon ∷ marks) = if is_colon colon then Ok (whole marks) else Err (fault colon.start BadBinding)

-- the last element, and not the only one, is the block that follows an initializer
abbrev pub has_observers : List Mark → List Inside → Bool
has_observers marks insides =
    nat_lt 1 (length marks) && first_is is_braces (drop (length marks - 1) marks) && (first_inside (drop (length marks - 1) insides)).observes

-- a binding with an initializer, which stands behind the `=` at `equals`
abbrev pub with_initializer : Option Span → ℕ → List Mark → List Inside → Result Tail ParseFault
with_initializer type_span equals marks insides =
    if length marks == 0 then Err (fault equals BadBinding)
    else (if has_observers marks insides
    then Ok (record { type_span = type_span; equals = Some equals; init = whole (take (length marks - 1) marks); block = block_here true (drop (length marks - 1) marks) (drop (length marks - 1) insides) })
    else Ok (record { type_span = type_span; equals = Some equals; init = whole marks; block = None }))

-- a binding without `=`, behind its type: nothing, or the block, which is the last element
abbrev pub blocked : Option Span → List Mark → List Inside → Result Tail ParseFault
blocked type_span [] insides = Ok (record { type_span = type_span; equals = None; init = None; block = None })
blocked type_span (block ∷ marks) insides =
    if is_braces block && length marks == 0 then Ok (record { type_span = type_span; equals = None; init = None; block = block_here true (block ∷ marks) insides })
    else Err (fault block.start BadBinding)

-- a binding without `=`, behind its pattern
abbrev pub without_initializer : List Mark → List Inside → Result Tail ParseFault
without_initializer [] insides = blocked None [] insides
without_initializer (colon ∷ marks) insides =
    if is_colon colon then blocked (whole (take (before is_braces marks) marks)) (drop (before is_braces marks) marks) (drop (before is_braces marks) (drop 1 insides))
    else blocked None (colon ∷ marks) insides

-- from the first `=` on, where there is one
abbrev pub by_equals : List Mark → List Inside → List Mark → List Inside → Result Tail ParseFault
by_equals marks insides [] from_equals = without_initializer marks insides
by_equals marks insides (equals ∷ init) from_equals =
    and_then (type_before (take (before is_equals marks) marks)) (λ type_span. with_initializer type_span equals.start init (drop 1 from_equals))

-- what a binding has behind its pattern
abbrev pub tail_of : List Mark → List Inside → Result Tail ParseFault
tail_of marks insides = by_equals marks insides (drop (before is_equals marks) marks) (drop (before is_equals marks) insides)

abbrev pub bound : Mark → List Mark → List Held → Tail → Bound
bound pattern marks held tail = record {
  binding = record { names = pattern_names pattern held; type_span = tail.type_span; equals = tail.equals; init = tail.init; end = end_of pattern.end marks };
  block = tail.block;
}

-- the binding that the elements are: a pattern, and what stands behind it
abbrev pub binding_of : List Mark → List Inside → List Held → Result Bound ParseFault
binding_of [] insides held = Err (fault 0 BadBinding)
binding_of (pattern ∷ marks) insides held =
    if is_pattern pattern then and_then (tail_of marks (drop 1 insides)) (λ tail. Ok (bound pattern marks held tail))
    else Err (fault pattern.start BadBinding)

-- the bindings behind the starter or the comma at `anchor`, where there is one, else behind `inside` elements of one that began before
abbrev pub bindings_from : Option ℕ → ℕ → List Mark → List Inside → List Held → Result (List Bound) ParseFault
bindings_from None inside [] insides held = Ok []
bindings_from (Some anchor) inside [] insides held = Err (fault anchor BadBinding)
bindings_from None (suc inside) (mark ∷ marks) insides held = bindings_from None inside marks (drop 1 insides) (drop 1 held)
bindings_from None zero (comma ∷ marks) insides held = bindings_from (Some comma.start) 0 marks (drop 1 insides) (drop 1 held)
bindings_from (Some anchor) inside (pattern ∷ marks) insides held =
    let behind = binding_length false 0 0 marks in
    and_then (binding_of (pattern ∷ take behind marks) insides held) (λ first. and_then (bindings_from None behind marks (drop 1 insides) (drop 1 held)) (λ others. Ok (first ∷ others)))
