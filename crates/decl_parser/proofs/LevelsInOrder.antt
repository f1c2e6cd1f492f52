-- Declarations and macro uses at every depth, and in the whole text.
use Rattle.std.proofs.Common.{subst, sym, arith, ℕ, ◌+◌, ◌-◌, List, length, true, false, ◌∷◌, ◌≤◌, Result, Ok, Err, if◌then◌else◌, [], ◌≡◌}
use Rattle.swift_base.specs.declared.place.Span.{Span}
use Rattle.element_marks.specs.declared.mark.Mark.{Mark}
use Rattle.element_marks.specs.Sorts.{is_braces}
use Rattle.element_marks.specs.Spans.{between}
use Rattle.element_marks.specs.Heads.{first_is, in_list}
use Rattle.element_marks.specs.Marks.{mark_between, mark_of}
use Rattle.swift_lexer.specs.declared.token.Token.{Token}
use Rattle.swift_lexer.specs.Trees.{Tree, leaf, nest, Forest, none, cons}
use Rattle.swift_lexer.specs.Groups.{IsGrouped}
use Rattle.swift_lexer.proofs.Reaching.{groups_hold_the_tokens}
use Rattle.swift_lexer.proofs.SomeGrouping.{some_group_outcome}
use Rattle.swift_tree.specs.declared.outline.Shape.{Shape}
use Rattle.swift_tree.specs.declared.outline.Shape.TheVariants as shape
use Rattle.swift_tree.specs.Outlines.{ItemSeen, OutlineSeen, items_from}
use Rattle.element_marks.specs.Levels.{own_marks, level}
use Rattle.element_marks.specs.Accessors.{accessors_from}
use Rattle.decl_parser.specs.declared.place.Place.{Place}
use Rattle.decl_parser.specs.declared.place.Place.TheVariants as place
use Rattle.decl_parser.specs.Bindings.{names_here, names_inside, names_of}
use Rattle.decl_parser.specs.Found.{found_in}
use Rattle.decl_parser.specs.Levels.{read_inside, inside_of, insides, held_of, held, items_of_list}
use Rattle.decl_parser.specs.Fragments.{all_of, by_shape, attributes_from, accessor_marks, accessors_inside, first_between, not_an_accessor, one_group, expression}
use Rattle.decl_parser.specs.Nesting.{PartsLie, AttrsLie, ItemsLie, OutlineLies}
use Rattle.decl_parser.specs.Laws.{SpansInOrder}
use Rattle.decl_parser.proofs.Outcomes.{OkHolds, ok_then, ok_at}
use Rattle.decl_parser.proofs.Wider.{parts_join, parts_wider}
use Rattle.decl_parser.proofs.Accepting.{parsed, tokens_read_tile}
use Rattle.decl_parser.proofs.Ordered.{InOrder, Beside, beside_level, beside_marks, bounds, earlier, later, mark_end, own_in_order, ForestInOrder, TreeInOrder, tree_start, tree_end, level_in_order, tiled_in_order, forest_bounds}
use Rattle.decl_parser.proofs.FoundInOrder.{InsideLies, FoundLies, found_in_lies}
use Rattle.decl_parser.proofs.HeldInOrder.{HeldLies}
use Rattle.decl_parser.proofs.PartsInOrder.{names_here_lie}
use Rattle.decl_parser.proofs.FragmentsInOrder.{Spans, spans_from, all_spans, attributes_lie, accessors_lie}
use Rattle.decl_parser.proofs.AttributesBefore.{level_modifiers, level_heads}
use Rattle.decl_parser.proofs.UsesBefore.{level_angles}
use Rattle.decl_parser.proofs.ItemsInOrder.{items_lie}

-- the elements of a group lie between its brackets
inner_in_order : (text : List ℕ) (left right : Token) (inner : Forest) (from : ℕ) → TreeInOrder text from (nest left inner right) → InOrder (left.start + 1) (level text inner) (right.end - 1)
inner_in_order text left right inner from lies =
    earlier (left.start + 1) left.end (right.end - 1) (level text inner) (omega (arith, lies.1.some)) (later left.end right.start (right.end - 1) (level text inner) (omega (arith, lies.3.some)) (level_in_order text left.end right.start inner lies.2))

-- names lie between the brackets of their element
abbrev NamesBetween : ℕ → List Span → ℕ → Type 0
NamesBetween start names end = PartsLie (start + 1) names (end - 1)

mutual
  unfolding names_inside names_of

  names_between : (text : List ℕ) (from : ℕ) (tree : Tree) → TreeInOrder text from tree → NamesBetween (tree_start tree) (names_inside text tree) (tree_end tree)
  names_between text from (leaf token) lies = tt
  names_between text from (nest left inner right) lies =
      parts_wider (left.start + 1) left.end right.start (right.end - 1) (names_of text inner) (omega (arith, lies.1.some)) (omega (arith, lies.3.some)) (names_lie text left.end right.start inner lies.2)

  names_lie : (text : List ℕ) (from to : ℕ) (forest : Forest) → ForestInOrder text from forest to → PartsLie from (names_of text forest) to
  names_lie text from to none lies = tt
  names_lie text from to (cons tree forest) lies =
      let mark = mark_of text tree in
      let order = own_in_order text from to (cons tree forest) lies in
      let inner = names_inside text tree in
      parts_join from mark.end to (names_here mark (own_marks text forest) inner) (names_of text forest) (omega (arith, order.0, order.1.some)) (bounds mark.end to (own_marks text forest) order.2)
      (names_here_lie from to mark (own_marks text forest) (own_marks text forest) inner order (beside_marks NamesBetween text tree inner (names_between text from tree lies.0)))
      (subst (λ n. PartsLie n (names_of text forest) to) (sym (mark_end text tree)) (names_lie text (tree_end tree) to forest lies.1))

mutual
  unfolding inside_of insides read_inside

  inside_lies : (text : List ℕ) (from : ℕ) (tree : Tree) → TreeInOrder text from tree → InsideLies (tree_start tree) (inside_of text tree) (tree_end tree)
  inside_lies text from (leaf token) lies = record { uses = tt; locals = tt }
  inside_lies text from (nest left inner right) lies =
      let marks = level text inner in
      let order = inner_in_order text left right inner from lies in
      let holds = beside_level InsideLies text inner (insides text inner) (insides_lie text left.end right.start inner lies.2) in
      let found = found_in_lies (left.start + 1) (right.end - 1) marks (insides text inner) order holds in
      record { uses = found.uses; locals = found.locals }

  insides_lie : (text : List ℕ) (from to : ℕ) (forest : Forest) → ForestInOrder text from forest to → Beside InsideLies (own_marks text forest) (insides text forest)
  insides_lie text from to none lies = tt
  insides_lie text from to (cons tree forest) lies =
      (beside_marks InsideLies text tree (inside_of text tree) (inside_lies text from tree lies.0), insides_lie text (tree_end tree) to forest lies.1)

level_insides : (text : List ℕ) (from to : ℕ) (forest : Forest) → ForestInOrder text from forest to → Beside InsideLies (level text forest) (insides text forest)
level_insides text from to forest lies = beside_level InsideLies text forest (insides text forest) (insides_lie text from to forest lies)

mutual
  unfolding held_of held names_inside

  held_lies : (text : List ℕ) (from : ℕ) (tree : Tree) → TreeInOrder text from tree → HeldLies (tree_start tree) (held_of text tree) (tree_end tree)
  held_lies text from (leaf token) lies = record { members = tt; names = tt }
  held_lies text from (nest left inner right) lies = record {
    members = items_lie place.Members (level text inner) (insides text inner) (held text inner) (level_insides text left.end right.start inner lies.2) (beside_level HeldLies text inner (held text inner) (all_held_lies text left.end right.start inner lies.2)) (level_angles text inner) (level_modifiers text inner) (level_heads text inner)
        (right.end - 1) (left.start + 1) (inner_in_order text left right inner from lies);
    names = names_between text from (nest left inner right) lies;
  }

  all_held_lies : (text : List ℕ) (from to : ℕ) (forest : Forest) → ForestInOrder text from forest to → Beside HeldLies (own_marks text forest) (held text forest)
  all_held_lies text from to none lies = tt
  all_held_lies text from to (cons tree forest) lies =
      (beside_marks HeldLies text tree (held_of text tree) (held_lies text from tree lies.0), all_held_lies text (tree_end tree) to forest lies.1)

list_lies : (of_place : Place) (text : List ℕ) (from to : ℕ) (forest : Forest) → ForestInOrder text from forest to → OkHolds (λ items. ItemsLie from (items_from items) to) (items_of_list of_place text forest)
unfolding items_of_list
list_lies of_place text from to forest lies =
    items_lie of_place (level text forest) (insides text forest) (held text forest) (level_insides text from to forest lies) (beside_level HeldLies text forest (held text forest) (all_held_lies text from to forest lies)) (level_angles text forest) (level_modifiers text forest) (level_heads text forest) to from (level_in_order text from to forest lies)

found_in_list : (text : List ℕ) (from to : ℕ) (forest : Forest) → ForestInOrder text from forest to → FoundLies from to (found_in (level text forest) (insides text forest))
found_in_list text from to forest lies = found_in_lies from to (level text forest) (insides text forest) (level_in_order text from to forest lies) (level_insides text from to forest lies)

-- the accessors stand in the list, or inside the one group that it is
accessor_marks_lie : (text : List ℕ) (to : ℕ) (forest : Forest) → ForestInOrder text 0 forest to → InOrder 0 (accessor_marks text (level text forest) (one_group forest)) to
accessor_marks_lie text to none lies = level_in_order text 0 to none lies
accessor_marks_lie text to (cons (leaf token) none) lies = level_in_order text 0 to (cons (leaf token) none) lies
accessor_marks_lie text to (cons (nest left inner right) none) lies =
    let marks = level text (cons (nest left inner right) none) in
    elim (first_is is_braces marks) as (λ b. InOrder 0 (if b then level text inner else marks) to) [
      | true ↦ earlier 0 (left.start + 1) to (level text inner) (omega arith) (later (left.start + 1) (right.end - 1) to (level text inner) (omega (arith, lies.1)) (inner_in_order text left right inner 0 lies.0))
      | false ↦ level_in_order text 0 to (cons (nest left inner right) none) lies
    ]
accessor_marks_lie text to (cons tree (cons next others)) lies = level_in_order text 0 to (cons tree (cons next others)) lies

-- between the braces around them
abbrev HasRoom : ℕ → List Mark → Type 0
HasRoom to [] = Unit {0}
HasRoom to (mark ∷ marks) = (mark.start + 2 ≤ mark.end) × (mark.end ≤ to)

between_lies : (text : List ℕ) (marks : List Mark) → HasRoom (length text) marks → Spans (length text) (first_between text marks)
between_lies text [] room = all_spans text
between_lies text (mark ∷ marks) room =
    elim (is_braces mark) as (λ b. Spans (length text) (if b then between mark else all_of text)) [
      | true ↦ (omega (arith, room.0), omega (arith, room.1))
      | false ↦ all_spans text
    ]

group_room : (text : List ℕ) (to : ℕ) (left : Token) (inner : Forest) (right : Token) → TreeInOrder text 0 (nest left inner right) → right.end ≤ to → HasRoom to (level text (cons (nest left inner right) none))
unfolding level in_list mark_between
group_room text to left inner right lies last = (omega (arith, lies.1.some, forest_bounds text left.end right.start inner lies.2, lies.3.some), last)

accessors_between : (text : List ℕ) (forest : Forest) → ForestInOrder text 0 forest (length text) → Spans (length text) (accessors_inside text (level text forest) (one_group forest))
accessors_between text none lies = all_spans text
accessors_between text (cons (leaf token) none) lies = all_spans text
accessors_between text (cons (nest left inner right) none) lies = between_lies text (level text (cons (nest left inner right) none)) (group_room text (length text) left inner right lies.0 lies.1)
accessors_between text (cons tree (cons next others)) lies = all_spans text

fault_kept : (P : List Span → Type 0) (outcome : Result (List Span) ℕ) → OkHolds P outcome → OkHolds P (not_an_accessor outcome)
fault_kept P (Ok words) holds = holds
fault_kept P (Err at) holds = tt

module _ (text : List ℕ) (forest : Forest) (lies : ForestInOrder text 0 forest (length text)) where
  abbrev Fits : OutlineSeen → Type 0
  Fits = OutlineLies (length text)

  declared_lie : (of_place : Place) (items : List ItemSeen) → items_of_list of_place text forest ≡ Ok items → ItemsLie 0 (items_from items) (length text)
  declared_lie of_place items are = ok_at (λ items. ItemsLie 0 (items_from items) (length text)) (items_of_list of_place text forest) items are (list_lies of_place text 0 (length text) forest lies)

  shape_lies : (of_shape : Shape) → OkHolds Fits (by_shape text of_shape forest)
  shape_lies shape.File = ok_then Fits (items_of_list place.File text forest) _ (λ items are. record { items = declared_lie place.File items are; attrs = tt; accessors = tt; uses = tt; locals = tt; inside = all_spans text })
  shape_lies shape.Items = ok_then Fits (items_of_list place.Anywhere text forest) _ (λ items are. record { items = declared_lie place.Anywhere items are; attrs = tt; accessors = tt; uses = tt; locals = tt; inside = all_spans text })
  shape_lies shape.Attributes =
      let order = level_in_order text 0 (length text) forest lies in
      ok_then Fits (attributes_from 0 (level text forest) (insides text forest)) _ (λ attrs are. record {
        items = tt;
        attrs = ok_at (λ attrs. AttrsLie 0 attrs (length text)) (attributes_from 0 (level text forest) (insides text forest)) attrs are (attributes_lie (length text) 0 (level text forest) (insides text forest) 0 order (level_insides text 0 (length text) forest lies));
        accessors = tt;
        uses = tt;
        locals = tt;
        inside = spans_from 0 (length text) (level text forest) order;
      })
  shape_lies shape.Accessors =
      let marks = accessor_marks text (level text forest) (one_group forest) in
      let found = found_in_list text 0 (length text) forest lies in
      ok_then Fits (not_an_accessor (accessors_from true 0 marks)) _ (λ words are. record {
        items = tt;
        attrs = tt;
        accessors = ok_at (λ words. PartsLie 0 words (length text)) (not_an_accessor (accessors_from true 0 marks)) words are (fault_kept (λ words. PartsLie 0 words (length text)) (accessors_from true 0 marks) (accessors_lie (length text) true 0 marks 0 (accessor_marks_lie text (length text) forest lies)));
        uses = found.uses;
        locals = found.locals;
        inside = accessors_between text forest lies;
      })
  shape_lies shape.Expression =
      let found = found_in_list text 0 (length text) forest lies in
      ok_then Fits (expression (level text forest)) _ (λ fine is. record { items = tt; attrs = tt; accessors = tt; uses = found.uses; locals = found.locals; inside = spans_from 0 (length text) (level text forest) (level_in_order text 0 (length text) forest lies) })

pub spans_in_order : SpansInOrder
spans_in_order text of_shape seen is =
    let read = parsed text of_shape seen is in
    let held = groups_hold_the_tokens text read.tokens read.forest (subst (IsGrouped text read.tokens) read.grouped (some_group_outcome text read.tokens)) in
    ok_at (OutlineLies (length text)) (by_shape text of_shape read.forest) seen read.shaped (shape_lies text read.forest (tiled_in_order text read.tokens read.forest (tokens_read_tile text read.tokens read.read) held.0) of_shape)
