-- The equations of trees and forests.
use Rattle.std.proofs.Common.{◌≡◌, ◌+◌, ◌<◌, length, get_or, drop, ℕ, List, Box, sym, ap, ◌∙◌}
use Rattle.std.proofs.lemmas.List.{at_drop_more, drop_all}
use Rattle.std.specs.declared.alloc.Global.{Global}
use Rattle.swift_lexer.specs.declared.token.Token.{Token}
use Rattle.swift_lexer.specs.declared.element.Element.{Element}
use Rattle.swift_lexer.specs.declared.element.Group.{Group}
use Rattle.swift_lexer.specs.declared.element.Element.TheOpen.{Element-F}
use Rattle.swift_lexer.specs.declared.element.Element.TheOpen as one_level
use Rattle.swift_lexer.specs.declared.element.Element.TheVariants.{Leaf, Nest, rolls-Leaf, rolls-Nest}
use Rattle.swift_lexer.specs.declared.element.Element.TheFolds.{fold-roll-Element, fold_out-Group}
use Rattle.swift_lexer.specs.Trees.{Tree, leaf, nest, cons, forest_of, tree_step, group_step, tree_of}

pub tree_of-leaf : (token : Token) → tree_of (Leaf token) ≡ leaf token
unfolding tree_of
tree_of-leaf token = ap tree_of (sym (rolls-Leaf token)) ∙ fold-roll-Element Tree Tree tree_step group_step (one_level.Leaf token)

pub tree_of-nest : (group : Box Group Global) → tree_of (Nest group) ≡ nest group.value.left (forest_of group.value.inner.items) group.value.right
unfolding tree_of
tree_of-nest group =
    ap tree_of (sym (rolls-Nest group)) ∙ fold-roll-Element Tree Tree tree_step group_step (one_level.Nest group) ∙ fold_out-Group Tree Tree tree_step group_step group.value

-- the element at an index is the first tree of what stands from there on
pub forest_of-drop : (elements : List Element) (i : ℕ) (element : Element) → i < length elements → element ≡ get_or elements i element → forest_of (drop i elements) ≡ cons (tree_of element) (forest_of (drop (i + 1) elements))
forest_of-drop elements i element within is =
    at_drop_more forest_of elements i element within ∙ ap (λ first. cons (tree_of first) (forest_of (drop (i + 1) elements))) (sym is)

-- for a walk over elements: what stands for the element at hand, and what is left behind it
pub ruleset walks = (forest_of-drop, tree_of-leaf, tree_of-nest, drop_all)
