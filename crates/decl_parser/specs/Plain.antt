-- Variables of one name with an initializer in which nothing begins: this project's own words.
use Rattle.std.specs.Prelude.{◌≡◌, ◌⊎◌, ℕ, suc, List, [], ◌∷◌, Option, Some, None, Ok, Bool, true, false, ◌&&◌, not, if◌then◌else◌}
use Rattle.std.specs.List.{list_all}
use Rattle.swift_lexer.specs.Trees.{Forest}
use Rattle.swift_tree.specs.declared.item.Kind.{Kind}
use Rattle.swift_tree.specs.declared.item.Kind.TheVariants as kind
use Rattle.swift_tree.specs.Outlines.{ItemSeen, item, item_of, no_block}
use Rattle.element_marks.specs.declared.mark.Mark.{Mark}
use Rattle.element_marks.specs.declared.mark.Sort.{Sort}
use Rattle.element_marks.specs.declared.mark.Sort.TheVariants as sort
use Rattle.element_marks.specs.declared.words.Keyword.TheVariants.{Starts}
use Rattle.element_marks.specs.declared.words.Starter.TheVariants as starter
use Rattle.element_marks.specs.Heads.{with_angles, with_heads, with_modifiers}
use Rattle.element_marks.specs.Levels.{level}
use Rattle.element_marks.specs.Passes.{begins_alone}
use Rattle.element_marks.specs.Runs.{stops}
use Rattle.element_marks.specs.Sorts.{is_parentheses, is_pattern, is_word}
use Rattle.element_marks.specs.Words.{is_underscore}
use Rattle.element_marks.specs.Spans.{name_of}
use Rattle.decl_parser.specs.declared.place.Place.{Place}
use Rattle.decl_parser.specs.declared.plain.Read.{Read}
use Rattle.decl_parser.specs.declared.plain.Run.{Run}
use Rattle.decl_parser.specs.Cut.{Begins, after, one_item}
use Rattle.decl_parser.specs.Levels.{held, insides}

-- a declaration of so many elements begins at the place of a list, and is this one
pub record IsRead (place : Place) (text : List ℕ) (forest : Forest) (at : ℕ) (read : Read) : Type 0 where
  pub begins : Begins (level text forest) at read.count
  pub item : Ok (item_of read.item) ≡ one_item place (level text forest) (insides text forest) (held text forest) at

-- the kinds of variables
abbrev pub IsVariable : Kind → Type 0
IsVariable which = (which ≡ kind.Let) ⊎ (which ≡ kind.Var)

-- the starter of a variable of the kind
pub record BeginsVariable (begins : Mark) (which : Kind) : Type 0 where
  pub a_word : is_word begins ≡ true
  pub alone : begins_alone begins ≡ true
  pub word : ((begins.keyword ≡ Starts starter.Let) × (which ≡ kind.Let)) ⊎ ((begins.keyword ≡ Starts starter.Var) × (which ≡ kind.Var))

-- neither a comma nor braces, and no use and no attribute begins here
abbrev pub is_plain_sort : Sort → Bool
is_plain_sort sort.Comma = false
is_plain_sort sort.At = false
is_plain_sort sort.Pound = false
is_plain_sort sort.Braces = false
is_plain_sort _ = true

abbrev pub is_plain : Mark → Bool
is_plain mark = is_plain_sort mark.sort

abbrev pub are_plain : List Mark → Bool
are_plain marks = list_all is_plain marks

-- a name alone as the pattern
abbrev pub is_plain_name : Mark → Bool
is_plain_name mark = is_pattern mark && not (is_parentheses mark) && not (is_underscore mark.keyword)

-- elements with their angle parts, their modifiers and their heads
abbrev pub set_by : List Mark → List Mark
set_by marks = with_heads (with_modifiers (with_angles marks))

-- the declaration before the elements has ended there
abbrev pub stops_first : Bool → List Mark → Bool
stops_first joined [] = false
stops_first joined (mark ∷ marks) = stops joined mark

-- how far a declaration goes of which so many elements stand before, where all that follow are plain
abbrev pub run_from : ℕ → ℕ → Bool → List Mark → Option Run
run_from count end joined [] = Some (record { count = count; end = end; joins = joined; after = end })
run_from count end joined (mark ∷ marks) =
    if stops joined mark then Some (record { count = count; end = end; joins = joined; after = after end (mark ∷ marks) })
    else (if is_plain mark then run_from (suc count) mark.end mark.joins marks else None)

-- the declaration, by the places of its starter, of its `=` and of its initializer, its name and how far it goes
abbrev pub plain_item : Kind → ℕ → Mark → ℕ → ℕ → Run → ItemSeen
plain_item which start name equals value run =
    item (record {
      span = record { start = start; end = run.end };
      after = run.after;
      kind = which;
      attrs = [];
      names = name_of name ∷ [];
      bindings = record { names = name_of name ∷ []; type_span = None; equals = Some equals; init = Some (record { start = value; end = run.end }); end = run.end } ∷ [];
      inherits = [];
      extended = None;
      uses = [];
      locals = [];
    }) no_block
