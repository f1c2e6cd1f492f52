-- What stands inside each group, at every depth: this project's own words.
use Rattle.std.specs.Prelude.{ℕ, suc, ◌+◌, List, [], ◌∷◌, Option, Some, None, Ok, Bool, true, false, ◌&&◌, not}
use Rattle.swift_lexer.specs.Trees.{Tree, Forest, leaf, nest, none, cons}
use Rattle.element_marks.specs.declared.mark.Mark.{Mark}
use Rattle.element_marks.specs.Levels.{level}
use Rattle.element_marks.specs.Quiet.{is_quiet, may_list_accessors}
use Rattle.element_marks.specs.Accessors.{lists_accessors, observes_from}
use Rattle.decl_parser.specs.declared.inside.Inside.{Inside}
use Rattle.decl_parser.specs.declared.place.Place.{Place}
use Rattle.decl_parser.specs.declared.place.Place.TheVariants.{Members}
use Rattle.decl_parser.specs.Insides.{nothing_inside}
use Rattle.decl_parser.specs.Bindings.{names_of}
use Rattle.decl_parser.specs.Held.{MembersRead, Held, nothing_held}
use Rattle.decl_parser.specs.Found.{found_in}
use Rattle.decl_parser.specs.Cut.{items_in}

-- the elements inside a group
abbrev pub tree_inside : Tree → Option Forest
tree_inside (leaf token) = None
tree_inside (nest left inner right) = Some inner

-- what stands inside a group, by the elements of its list
unfoldable pub read_inside : List Mark → List Inside → Inside
read_inside marks insides = record {
  observes = observes_from 0 marks;
  lists_accessors = lists_accessors marks;
  uses = (found_in marks insides).uses;
  locals = (found_in marks insides).locals;
}

unfoldable mutual
  pub inside_of : List ℕ → Tree → Inside
  inside_of text (leaf token) = nothing_inside
  inside_of text (nest left inner right) = read_inside (level text inner) (insides text inner)

  -- what stands inside each element of a list
  pub insides : List ℕ → Forest → List Inside
  insides text none = []
  insides text (cons tree forest) = inside_of text tree ∷ insides text forest

unfoldable mutual
  pub held_of : List ℕ → Tree → Held
  held_of text (leaf token) = nothing_held
  held_of text (nest left inner right) = record { members = items_in Members (level text inner) (insides text inner) (held text inner); names = names_of text inner }

  -- what each element of a list holds
  pub held : List ℕ → Forest → List Held
  held text none = []
  held text (cons tree forest) = held_of text tree ∷ held text forest

-- the declarations of a list
unfoldable pub items_of_list : Place → List ℕ → Forest → MembersRead
items_of_list place text forest = items_in place (level text forest) (insides text forest) (held text forest)

-- the declarations inside a group, where there is one
abbrev pub members_by : List ℕ → Option Forest → MembersRead
members_by text None = Ok []
members_by text (Some inner) = items_of_list Members text inner

-- how many elements a list has, at every depth
abbrev mutual
  pub tree_size : Tree → ℕ
  tree_size (leaf token) = 1
  tree_size (nest left inner right) = suc (forest_size inner)

  pub forest_size : Forest → ℕ
  forest_size none = 0
  forest_size (cons tree forest) = tree_size tree + forest_size forest

abbrev pub is_leaf : Tree → Bool
is_leaf (leaf token) = true
is_leaf (nest left inner right) = false

-- no macro use, no attribute and no accessor stands in the brackets of the element, at any depth
abbrev mutual
  pub is_silent : List ℕ → Tree → Bool
  is_silent text (leaf token) = true
  is_silent text (nest left inner right) = is_quiet inner && not (may_list_accessors text inner) && are_silent text inner

  pub are_silent : List ℕ → Forest → Bool
  are_silent text none = true
  are_silent text (cons tree forest) = is_silent text tree && are_silent text forest
