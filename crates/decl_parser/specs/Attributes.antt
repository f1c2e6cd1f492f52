-- Macro uses and attributes by their elements: after SE-0382 and SE-0389.
use Rattle.std.specs.Prelude.{ℕ, ◌+◌, ◌==◌, List, [], ◌∷◌, take, drop, Option, Some, None, not, if◌then◌else◌, unwrap_or}
use Rattle.swift_base.specs.declared.place.Span.{Span}
use Rattle.swift_tree.specs.declared.item.MacroUse.{MacroUse}
use Rattle.swift_tree.specs.declared.item.Attr.{Attr}
use Rattle.element_marks.specs.declared.mark.Mark.{Mark}
use Rattle.element_marks.specs.Sorts.{is_parentheses}
use Rattle.element_marks.specs.Spans.{span_of, name_of, behind_first, whole}
use Rattle.element_marks.specs.Heads.{attribute_length, dots_length, first_angles}
use Rattle.decl_parser.specs.declared.inside.Inside.{Inside}
use Rattle.decl_parser.specs.Insides.{first_inside}

abbrev pub nowhere : Span
nowhere = record { start = 0; end = 0 }

-- from the first element to the last; of no elements, the text's beginning
abbrev pub span_from : List Mark → Span
span_from marks = unwrap_or (whole marks) nowhere

-- the name behind the `#` or the `@` of the first element
abbrev pub pound_name : List Mark → Span
pound_name [] = nowhere
pound_name (pound ∷ marks) = behind_first pound

-- the use that the elements are
abbrev pub use_of : List Mark → MacroUse
use_of marks = record { span = span_from marks; name = pound_name marks }

-- the name of an attribute, which begins the elements: of a dotted one, from its first word to its last
abbrev pub attribute_name : List Mark → Span
attribute_name [] = nowhere
attribute_name (name ∷ marks) = if dots_length marks == 0 then name_of name else span_from (name ∷ take (dots_length marks) marks)

-- how many elements stand before the arguments of the attribute that begins here
abbrev pub args_place : List Mark → ℕ
args_place marks = let named = 2 + dots_length (drop 2 marks) in named + first_angles (drop named marks)

-- arguments where they stand first, and the uses in them
abbrev pub args_span : List Mark → Option Span
args_span [] = None
args_span (mark ∷ marks) = if is_parentheses mark then Some (span_of mark) else None

abbrev pub args_uses : List Mark → List Inside → List MacroUse
args_uses [] insides = []
args_uses (mark ∷ marks) insides = if is_parentheses mark then (first_inside insides).uses else []

-- the attribute that begins here
abbrev pub attr_of : List Mark → List Inside → Attr
attr_of marks insides = record {
  span = span_from (take (attribute_length marks) marks);
  name = attribute_name (drop 1 marks);
  dotted = not (dots_length (drop 2 marks) == 0);
  args = args_span (drop (args_place marks) marks);
  uses = args_uses (drop (args_place marks) marks) (drop (args_place marks) insides);
}
