-- Attributes, accessors and expressions as whole texts: this project's own, after SE-0382 and SE-0389.
use Rattle.std.specs.Prelude.{ℕ, zero, suc, List, [], ◌∷◌, drop, length, Option, Some, None, Result, Ok, Err, true, if◌then◌else◌}
use Rattle.swift_base.specs.declared.place.Span.{Span}
use Rattle.swift_lexer.specs.Trees.{Forest, none, cons}
use Rattle.swift_tree.specs.declared.item.Attr.{Attr}
use Rattle.swift_tree.specs.declared.outline.Shape.{Shape}
use Rattle.swift_tree.specs.declared.outline.Shape.TheVariants as shape
use Rattle.swift_tree.specs.Outlines.{OutlineSeen, items_from}
use Rattle.swift_tree.specs.Outlines as seen
use Rattle.element_marks.specs.declared.mark.Mark.{Mark}
use Rattle.element_marks.specs.Answers.{and_then}
use Rattle.element_marks.specs.Sorts.{is_braces, is_semicolon}
use Rattle.element_marks.specs.Spans.{between}
use Rattle.element_marks.specs.Heads.{by_length, attribute_length, first_is}
use Rattle.element_marks.specs.Levels.{level}
use Rattle.element_marks.specs.Accessors.{accessors_from}
use Rattle.decl_parser.specs.declared.fault.ParseFault.{ParseFault}
use Rattle.decl_parser.specs.declared.fault.ParseKind.TheVariants.{NotAnAttribute, NotAnAccessor, NotAnExpression, Empty}
use Rattle.decl_parser.specs.declared.place.Place.TheVariants as place
use Rattle.decl_parser.specs.declared.inside.Inside.{Inside}
use Rattle.decl_parser.specs.Faults.{fault}
use Rattle.decl_parser.specs.Attributes.{attr_of, span_from}
use Rattle.decl_parser.specs.Found.{Found, found_in}
use Rattle.decl_parser.specs.Held.{MembersRead}
use Rattle.decl_parser.specs.Levels.{insides, items_of_list, tree_inside}

-- an outline of the shape with nothing in it, of which that part is spliced
abbrev pub bare : List ℕ → Shape → Span → OutlineSeen
bare text shape inside = record { text = text; shape = shape; items = seen.none; attrs = []; accessors = []; inside = inside; uses = []; locals = [] }

abbrev pub all_of : List ℕ → Span
all_of text = record { start = 0; end = length text }

abbrev pub with_items : OutlineSeen → MembersRead → Result OutlineSeen ParseFault
with_items outline outcome = and_then outcome (λ items. Ok (record outline { items = items_from items }))

abbrev pub with_found : OutlineSeen → Found → OutlineSeen
with_found outline found = record outline { uses = found.uses; locals = found.locals }

-- the attributes that the elements are, past `inside` elements of one that began before
abbrev pub attributes_from : ℕ → List Mark → List Inside → Result (List Attr) ParseFault
attributes_from inside [] insides = Ok []
attributes_from (suc inside) (mark ∷ marks) insides = attributes_from inside marks (drop 1 insides)
attributes_from zero (mark ∷ marks) insides =
    by_length (attribute_length (mark ∷ marks)) (Err (fault mark.start NotAnAttribute)) (λ more.
    and_then (attributes_from more marks (drop 1 insides)) (λ others. Ok (attr_of (mark ∷ marks) insides ∷ others)))

-- an expression has an element, and no `;` among its elements
abbrev pub no_semicolon : List Mark → Result (Unit {0}) ParseFault
no_semicolon [] = Ok tt
no_semicolon (mark ∷ marks) = if is_semicolon mark then Err (fault mark.start NotAnExpression) else no_semicolon marks

abbrev pub expression : List Mark → Result (Unit {0}) ParseFault
expression [] = Err (fault 0 Empty)
expression (mark ∷ marks) = no_semicolon (mark ∷ marks)

-- the one group that the elements are
abbrev pub one_group : Forest → Option Forest
one_group (cons tree none) = tree_inside tree
one_group _ = None

-- the list that accessors stand in: the text's, or that inside the one pair of braces that it is
abbrev pub accessor_marks : List ℕ → List Mark → Option Forest → List Mark
accessor_marks text marks None = marks
accessor_marks text marks (Some inner) = if first_is is_braces marks then level text inner else marks

abbrev pub first_between : List ℕ → List Mark → Span
first_between text [] = all_of text
first_between text (braces ∷ marks) = if is_braces braces then between braces else all_of text

abbrev pub accessors_inside : List ℕ → List Mark → Option Forest → Span
accessors_inside text marks None = all_of text
accessors_inside text marks (Some inner) = first_between text marks

abbrev pub not_an_accessor : {A : Type 0} → Result A ℕ → Result A ParseFault
not_an_accessor (Ok words) = Ok words
not_an_accessor (Err at) = Err (fault at NotAnAccessor)

-- one row a shape
abbrev pub by_shape : List ℕ → Shape → Forest → Result OutlineSeen ParseFault
by_shape text shape.File forest = with_items (bare text shape.File (all_of text)) (items_of_list place.File text forest)
by_shape text shape.Items forest = with_items (bare text shape.Items (all_of text)) (items_of_list place.Anywhere text forest)
by_shape text shape.Attributes forest =
    and_then (attributes_from 0 (level text forest) (insides text forest)) (λ attrs. Ok (record (bare text shape.Attributes (span_from (level text forest))) { attrs = attrs }))
by_shape text shape.Accessors forest =
    and_then (not_an_accessor (accessors_from true 0 (accessor_marks text (level text forest) (one_group forest)))) (λ words. Ok (with_found (record (bare text shape.Accessors (accessors_inside text (level text forest) (one_group forest))) { accessors = words }) (found_in (level text forest) (insides text forest))))
by_shape text shape.Expression forest =
    and_then (expression (level text forest)) (λ fine. Ok (with_found (bare text shape.Expression (span_from (level text forest))) (found_in (level text forest) (insides text forest))))
