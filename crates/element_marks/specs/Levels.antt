-- The elements of a list: this project's own words.
use Rattle.std.specs.Prelude.{ℕ, List, [], ◌∷◌}
use Rattle.swift_lexer.specs.Trees.{Forest, none, cons}
use Rattle.element_marks.specs.declared.mark.Mark.{Mark}
use Rattle.element_marks.specs.Marks.{mark_of}
use Rattle.element_marks.specs.Heads.{in_list}

-- the elements of a list by their own text
abbrev pub own_marks : List ℕ → Forest → List Mark
own_marks text none = []
own_marks text (cons tree forest) = mark_of text tree ∷ own_marks text forest

-- the elements of a list
unfoldable pub level : List ℕ → Forest → List Mark
level text forest = in_list (own_marks text forest)
