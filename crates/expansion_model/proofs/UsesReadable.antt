-- The texts of the macro uses of an accepted text are UTF-8, at every depth.
use Rattle.std.proofs.Common.{◌≡◌, refl, ℕ, zero, suc, ◌+◌, ◌-◌, ◌==◌, List, [], ◌∷◌, ◌++◌, length, take, drop, Option, Some, None, Bool, true, false, if◌then◌else◌}
use Rattle.std.specs.Prelude.{min, nat_lt, reverse}
use Rattle.std.specs.List.{AllByRecursion, flat_map}
use Rattle.std.specs.Str.{IsUtf8}
use Rattle.std.proofs.lemmas.Str.{IsUtf8-nil}
use Rattle.swift_base.specs.declared.place.Span.{Span}
use Rattle.swift_lexer.specs.Trees.{Tree, leaf, nest, Forest, none, cons}
use Rattle.swift_tree.specs.declared.item.Attr.{Attr}
use Rattle.swift_tree.specs.declared.item.MacroUse.{MacroUse}
use Rattle.swift_tree.specs.declared.item.Kind.{Kind}
use Rattle.swift_tree.specs.Outlines.{Head, ItemSeen, items_from}
use Rattle.element_marks.specs.declared.mark.Mark.{Mark}
use Rattle.element_marks.specs.Sorts.{is_parentheses, is_semicolon, is_use}
use Rattle.element_marks.specs.Spans.{end_of}
use Rattle.element_marks.specs.Heads.{by_length, attribute_length, first_is}
use Rattle.element_marks.specs.Uses.{use_length, call_length, closures_length}
use Rattle.element_marks.specs.Levels.{level}
use Rattle.decl_parser.specs.declared.inside.Inside.{Inside}
use Rattle.decl_parser.specs.declared.inside.BlockAt.{BlockAt}
use Rattle.decl_parser.specs.declared.parts.Parts.{Parts}
use Rattle.decl_parser.specs.declared.place.Place.{Place}
use Rattle.decl_parser.specs.declared.place.Place.TheVariants as place
use Rattle.decl_parser.specs.Insides.{first_inside, nothing_inside}
use Rattle.decl_parser.specs.Attributes.{args_place, args_uses, attr_of, use_of}
use Rattle.decl_parser.specs.Found.{Found, Step, found_step, found_from, found_in, local_attributes}
use Rattle.decl_parser.specs.Parts.{parts}
use Rattle.decl_parser.specs.Cut.{all_ends, assembled, beginning, block_of, count_of, cut_from, head_of, item_at, items_in, kind_of, members_at, members_place, one_item, whole_item, without}
use Rattle.decl_parser.specs.Attributes.{span_from}
use Rattle.decl_parser.specs.Held.{MembersRead, Held, first_held}
use Rattle.decl_parser.specs.Levels.{read_inside, inside_of, insides, held_of, held, items_of_list}
use Rattle.decl_parser.proofs.Outcomes.{OkHolds, ok_then, ok_if, ok_at}
use Rattle.expansion_model.proofs.Heads.{IsUseReadable}
use Rattle.expansion_model.proofs.Heads.{heads, heads_from, heads_in, uses_of, all_uses}
use Rattle.expansion_model.proofs.Boundaries.{utf8_between}
use Rattle.expansion_model.proofs.MarkBoundaries.{IsBounded, IsTreePlaced, IsForestPlaced, each_take, each_drop, each_append, end_bounded, level_bounded}

abbrev pub AreReadable : List ℕ → List MacroUse → Type 0
AreReadable text uses = AllByRecursion (IsUseReadable text) uses

-- the uses of a declaration, those in its block apart
abbrev pub IsHeadReadable : List ℕ → Head → Type 0
IsHeadReadable text head = AreReadable text (uses_of head)

abbrev pub AreHeadsReadable : List ℕ → List Head → Type 0
AreHeadsReadable text declarations = AllByRecursion (IsHeadReadable text) declarations

-- the uses in brackets, in an attribute's arguments, and in elements
abbrev IsInsideReadable : List ℕ → Inside → Type 0
IsInsideReadable text inside = AreReadable text inside.uses

abbrev IsAttrReadable : List ℕ → Attr → Type 0
IsAttrReadable text attribute = AreReadable text attribute.uses

abbrev IsFoundReadable : List ℕ → Found → Type 0
IsFoundReadable text found = AllByRecursion (IsAttrReadable text) found.attrs × AreReadable text found.uses

abbrev ItemReadable : List ℕ → ItemSeen → Type 0
ItemReadable text seen = AreHeadsReadable text (heads_from seen)

abbrev pub ItemsReadable : List ℕ → List ItemSeen → Type 0
ItemsReadable text items = AreHeadsReadable text (heads (items_from items))

abbrev pub MembersReadable : List ℕ → MembersRead → Type 0
MembersReadable text read = OkHolds (ItemsReadable text) read

abbrev HeldReadable : List ℕ → Held → Type 0
HeldReadable text held = MembersReadable text held.members

-- a use begins with a `#` word
abbrev BeginsUse : ℕ → List Mark → Type 0
BeginsUse zero marks = Unit {0}
BeginsUse (suc more) [] = Unit {0}
BeginsUse (suc more) (mark ∷ marks) = is_use mark ≡ true

begins_if : (which : Bool) (more : ℕ) (mark : Mark) (marks : List Mark) → is_use mark ≡ which → BeginsUse (if which then suc more else 0) (mark ∷ marks)
begins_if true more mark marks is = is
begins_if false more mark marks is = tt

begins_use : (blocks : List ℕ) (before marks : List Mark) → BeginsUse (use_length blocks before marks) marks
unfolding use_length
begins_use blocks before [] = tt
begins_use blocks before (pound ∷ marks) = begins_if (is_use pound) (call_length marks + closures_length blocks before (drop (call_length marks) marks)) pound marks refl

-- by how many elements a use has, and an attribute of the declaration's own
abbrev step_by : ℕ → ℕ → List Mark → List Inside → Step
step_by use_ attribute marks insides =
    by_length use_
    (by_length attribute
    (record { more = 0; found = record { attrs = []; uses = (first_inside insides).uses; locals = local_attributes marks insides ++ (first_inside insides).locals } })
    (λ more. record { more = more; found = record { attrs = attr_of marks insides ∷ []; uses = []; locals = [] } }))
    (λ more. record { more = more; found = record { attrs = []; uses = use_of (take (suc more) marks) ∷ []; locals = [] } })

module _ (text : List ℕ) where
  first_readable : (insides : List Inside) → AllByRecursion (IsInsideReadable text) insides → AreReadable text (first_inside insides).uses
  first_readable [] each = tt
  first_readable (inside ∷ insides) each = each.0

  uses_if : (which : Bool) (uses : List MacroUse) → AreReadable text uses → AreReadable text (if which then uses else [])
  uses_if true uses each = each
  uses_if false uses each = tt

  args_readable : (marks : List Mark) (insides : List Inside) → AllByRecursion (IsInsideReadable text) insides → AreReadable text (args_uses marks insides)
  args_readable [] insides each = tt
  args_readable (mark ∷ marks) insides each = uses_if (is_parentheses mark) (first_inside insides).uses (first_readable insides each)

  attr_readable : (marks : List Mark) (insides : List Inside) → AllByRecursion (IsInsideReadable text) insides → IsAttrReadable text (attr_of marks insides)
  attr_readable marks insides each =
      args_readable (drop (args_place marks) marks) (drop (args_place marks) insides) (each_drop (IsInsideReadable text) (args_place marks) insides each)

module _ (text : List ℕ) (utf8 : IsUtf8 text) where
  use_readable : (more : ℕ) (marks : List Mark) → BeginsUse (suc more) marks → AllByRecursion (IsBounded text) marks → IsUseReadable text (use_of (take (suc more) marks))
  use_readable more [] begins each = record { span = IsUtf8-nil; name = IsUtf8-nil }
  use_readable more (mark ∷ marks) begins each = record {
    span = utf8_between text mark.start (end_of mark.end (take more marks)) utf8 each.0.begins (end_bounded text mark.end (take more marks) each.0.ends (each_take (IsBounded text) more marks each.1));
    name = utf8_between text (min (mark.start + 1) mark.end) mark.end utf8 (each.0.name begins) each.0.ends;
  }

  step_readable : (use_ attribute : ℕ) (marks : List Mark) (insides : List Inside) → BeginsUse use_ marks → AllByRecursion (IsBounded text) marks → AllByRecursion (IsInsideReadable text) insides → IsFoundReadable text (step_by use_ attribute marks insides).found
  step_readable zero zero marks insides begins bounded each = (tt, first_readable text insides each)
  step_readable zero (suc more) marks insides begins bounded each = ((attr_readable text marks insides each, tt), tt)
  step_readable (suc more) attribute marks insides begins bounded each = (tt, (use_readable more marks begins bounded, tt))

  found_readable : (blocks : List ℕ) (own : ℕ) (list : List Mark) (at inside left : ℕ) (insides : List Inside) → AllByRecursion (IsBounded text) list → AllByRecursion (IsInsideReadable text) insides → IsFoundReadable text (found_from blocks own list at inside left insides)
  found_readable blocks own list at inside zero insides bounded each = (tt, tt)
  found_readable blocks own list at (suc inside) (suc left) insides bounded each =
      found_readable blocks own list (suc at) inside left (drop 1 insides) bounded (each_drop (IsInsideReadable text) 1 insides each)
  found_readable blocks own list at zero (suc left) insides bounded each =
      let marks = drop at list in
      let before = reverse (take at list) in
      let step = found_step blocks own list at insides in
      let first : IsFoundReadable text step.found = step_readable (use_length blocks before marks) (if nat_lt at own then attribute_length marks else 0) marks insides (begins_use blocks before marks) (each_drop (IsBounded text) at list bounded) each in
      let others = found_from blocks own list (suc at) step.more left (drop 1 insides) in
      let behind : IsFoundReadable text others = found_readable blocks own list (suc at) step.more left (drop 1 insides) bounded (each_drop (IsInsideReadable text) 1 insides each) in
      (each_append (IsAttrReadable text) step.found.attrs others.attrs first.0 behind.0, each_append (IsUseReadable text) step.found.uses others.uses first.1 behind.1)

  found_in_readable : (marks : List Mark) (insides : List Inside) → AllByRecursion (IsBounded text) marks → AllByRecursion (IsInsideReadable text) insides → IsFoundReadable text (found_in marks insides)
  unfolding found_in
  found_in_readable marks insides bounded each = found_readable [] 0 marks 0 0 (length marks) insides bounded each

  mutual
    unfolding inside_of insides read_inside

    inside_readable : (tree : Tree) → IsTreePlaced text tree → IsInsideReadable text (inside_of text tree)
    inside_readable (leaf token) placed = tt
    inside_readable (nest left inner right) placed = (found_in_readable (level text inner) (insides text inner) (level_bounded text utf8 inner placed.1) (insides_readable inner placed.1)).1

    insides_readable : (forest : Forest) → IsForestPlaced text forest → AllByRecursion (IsInsideReadable text) (insides text forest)
    insides_readable none placed = tt
    insides_readable (cons tree forest) placed = (inside_readable tree placed.0, insides_readable forest placed.1)

-- an attribute's uses stand before the others
attrs_readable : (text : List ℕ) (attrs : List Attr) → AllByRecursion (IsAttrReadable text) attrs → AreReadable text (flat_map (λ attribute. attribute.uses) attrs)
attrs_readable text [] each = tt
attrs_readable text (attribute ∷ attrs) each = each_append (IsUseReadable text) attribute.uses (flat_map (λ attribute. attribute.uses) attrs) each.0 (attrs_readable text attrs each.1)

pub all_readable : (text : List ℕ) (declarations : List Head) → AreHeadsReadable text declarations → AreReadable text (all_uses declarations)
all_readable text [] each = tt
all_readable text (head ∷ declarations) each = each_append (IsUseReadable text) (uses_of head) (all_uses declarations) each.0 (all_readable text declarations each.1)

module _ (text : List ℕ) where
  block_readable : (at : Option BlockAt) (inner : List ItemSeen) → ItemsReadable text inner → AreHeadsReadable text (heads_in (block_of at inner))
  block_readable None inner each = tt
  block_readable (Some at) inner each = each

  assembled_readable : (span : Span) (next : List Mark) (kind : Kind) (read : Parts) (found : Found) (inner : List ItemSeen) → IsFoundReadable text found → ItemsReadable text inner → ItemReadable text (assembled span next kind read found inner)
  assembled_readable span next kind read found inner finds each =
      (each_append (IsUseReadable text) (flat_map (λ attribute. attribute.uses) found.attrs) found.uses (attrs_readable text found.attrs finds.0) finds.1, block_readable read.block inner each)

  first_members_readable : (held : List Held) → AllByRecursion (HeldReadable text) held → MembersReadable text (first_held held).members
  first_members_readable [] each = tt
  first_members_readable (held ∷ others) each = each.0

  members_at_readable : (at : Option ℕ) (held : List Held) → AllByRecursion (HeldReadable text) held → MembersReadable text (members_at at held)
  members_at_readable None held each = tt
  members_at_readable (Some at) held each = first_members_readable (drop at held) (each_drop (HeldReadable text) at held each)

  without_readable : (at : Option ℕ) (insides : List Inside) → AllByRecursion (IsInsideReadable text) insides → AllByRecursion (IsInsideReadable text) (without at insides)
  without_readable None insides each = each
  without_readable (Some at) insides each =
      let P : Inside → Type 0 = IsInsideReadable text in
      each_append P (take at insides) (nothing_inside ∷ drop 1 (drop at insides)) (each_take P at insides each) (tt, each_drop P 1 (drop at insides) (each_drop P at insides each))

module _ (text : List ℕ) (utf8 : IsUtf8 text) (of_place : Place) where
  item_readable : (list : List Mark) (from : ℕ) (next : List Mark) (insides : List Inside) (held : List Held) → AllByRecursion (IsBounded text) list → AllByRecursion (IsInsideReadable text) insides → AllByRecursion (HeldReadable text) held
      → OkHolds (ItemReadable text) (item_at of_place list from next insides held)
  unfolding item_at whole_item
  item_readable list from next insides held bounded each each_member =
      let own = drop from list in
      let head = head_of own in
      let P : ItemSeen → Type 0 = ItemReadable text in
      ok_then P (beginning of_place own) _ (λ starter begun.
      let braces = members_place starter head own in
      let outside = without braces insides in
      ok_then P (parts (kind_of starter) starter (drop head own) (drop head outside) (drop head held)) _ (λ read is.
      ok_then P (members_at braces held) _ (λ inner found.
      ok_then P (all_ends read.body starter list from) _ (λ ended ends.
      assembled_readable text (span_from own) next (kind_of starter) read (found_from read.blocks (from + head) list from 0 (length list - from) outside) inner
      (found_readable text utf8 read.blocks (from + head) list from 0 (length list - from) outside bounded (without_readable text braces insides each))
      (ok_at (ItemsReadable text) (members_at braces held) inner found (members_at_readable text braces held each_member))))))

  module _ (marks : List Mark) (insides : List Inside) (held : List Held) (bounded : AllByRecursion (IsBounded text) marks) (each : AllByRecursion (IsInsideReadable text) insides) (each_member : AllByRecursion (HeldReadable text) held) where
    one_readable : (at : ℕ) → OkHolds (ItemReadable text) (one_item of_place marks insides held at)
    one_readable at =
        let count = count_of (drop at marks) in
        item_readable (take (at + count) marks) at (drop (at + count) marks) (take count (drop at insides)) (take count (drop at held)) (each_take (IsBounded text) (at + count) marks bounded)
        (each_take (IsInsideReadable text) count (drop at insides) (each_drop (IsInsideReadable text) at insides each))
        (each_take (HeldReadable text) count (drop at held) (each_drop (HeldReadable text) at held each_member))

    cut_readable : (at inside left : ℕ) → MembersReadable text (cut_from of_place marks insides held at inside left)
    cut_readable at inside zero = tt
    cut_readable at (suc inside) (suc left) = cut_readable (suc at) inside left
    cut_readable at zero (suc left) =
        let P : List ItemSeen → Type 0 = ItemsReadable text in
        let rest = cut_from of_place marks insides held (suc at) (count_of (drop at marks) - 1) left in
        ok_if P (first_is is_semicolon (drop at marks)) _ _ (λ is. cut_readable (suc at) 0 left) (λ is.
        ok_if P (head_of (drop at marks) == 0) _ _ (λ no_head. tt) (λ some_head.
        ok_then P (one_item of_place marks insides held at) _ (λ one read.
        ok_then P rest _ (λ others are.
        each_append (IsHeadReadable text) (heads_from one) (heads (items_from others)) (ok_at (ItemReadable text) (one_item of_place marks insides held at) one read (one_readable at))
        (ok_at P rest others are (cut_readable (suc at) (count_of (drop at marks) - 1) left))))))

    items_readable : MembersReadable text (items_in of_place marks insides held)
    unfolding items_in
    items_readable = cut_readable 0 0 (length marks)

module _ (text : List ℕ) (utf8 : IsUtf8 text) where
  mutual
    unfolding held_of held

    held_readable : (tree : Tree) → IsTreePlaced text tree → HeldReadable text (held_of text tree)
    held_readable (leaf token) placed = tt
    held_readable (nest left inner right) placed =
        items_readable text utf8 place.Members (level text inner) (insides text inner) (held text inner) (level_bounded text utf8 inner placed.1) (insides_readable text utf8 inner placed.1) (all_held_readable inner placed.1)

    all_held_readable : (forest : Forest) → IsForestPlaced text forest → AllByRecursion (HeldReadable text) (held text forest)
    all_held_readable none placed = tt
    all_held_readable (cons tree forest) placed = (held_readable tree placed.0, all_held_readable forest placed.1)

  pub list_readable : (of_place : Place) (forest : Forest) → IsForestPlaced text forest → MembersReadable text (items_of_list of_place text forest)
  unfolding items_of_list
  list_readable of_place forest placed =
      items_readable text utf8 of_place (level text forest) (insides text forest) (held text forest) (level_bounded text utf8 forest placed) (insides_readable text utf8 forest placed) (all_held_readable forest placed)

-- an expression's own uses
pub uses_readable : (text : List ℕ) → IsUtf8 text → (forest : Forest) → IsForestPlaced text forest → AreReadable text (found_in (level text forest) (insides text forest)).uses
uses_readable text utf8 forest placed =
    (found_in_readable text utf8 (level text forest) (insides text forest) (level_bounded text utf8 forest placed) (insides_readable text utf8 forest placed)).1
