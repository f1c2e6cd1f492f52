-- Outlines by their shapes: an outline has declarations or uses of its own, and no two of both.
use Rattle.std.proofs.Common.{◌≡◌, ◌⊎◌, inl, inr, refl, ℕ, true, List, [], Ok}
use Rattle.swift_lexer.specs.Trees.{Forest, forest_tokens}
use Rattle.swift_tree.specs.declared.outline.Shape.{Shape}
use Rattle.swift_tree.specs.declared.outline.Shape.TheVariants as shape
use Rattle.swift_tree.specs.Outlines.{none, OutlineSeen}
use Rattle.element_marks.specs.Accessors.{accessors_from}
use Rattle.element_marks.specs.Levels.{level}
use Rattle.decl_parser.specs.declared.place.Place.TheVariants as place
use Rattle.decl_parser.specs.Fragments.{accessor_marks, attributes_from, by_shape, expression, not_an_accessor, one_group}
use Rattle.decl_parser.specs.Levels.{insides, items_of_list}
use Rattle.decl_parser.specs.Outline.{allowed, elements_of, outline, outline_by}
use Rattle.decl_parser.proofs.Accepting.{then_ok}
use Rattle.decl_parser.proofs.Outcomes.{OkHolds, ok_then, ok_at}

-- what an outline is made of
pub record IsShaped (text : List ℕ) (shape : Shape) (seen : OutlineSeen) : Type 0 where
  pub forest : Forest
  pub elements : elements_of text ≡ Ok forest
  pub by : by_shape text shape forest ≡ Ok seen

pub shaped : (text : List ℕ) (shape : Shape) (seen : OutlineSeen) → outline text shape ≡ Ok seen → IsShaped text shape seen
unfolding outline
shaped text shape seen is =
    let outer = then_ok (elements_of text) (outline_by text shape) seen is in
    let words = then_ok (allowed text shape (forest_tokens outer.0)) (λ fine. by_shape text shape outer.0) seen outer.2 in
    record { forest = outer.0; elements = outer.1; by = words.2 }

abbrev pub HasOneKind : OutlineSeen → Type 0
HasOneKind seen = (seen.items ≡ none) ⊎ (seen.uses ≡ [])

one_kind_by : (text : List ℕ) (shape : Shape) (forest : Forest) → OkHolds HasOneKind (by_shape text shape forest)
one_kind_by text shape.File forest = ok_then HasOneKind (items_of_list place.File text forest) _ (λ items are. inr refl)
one_kind_by text shape.Items forest = ok_then HasOneKind (items_of_list place.Anywhere text forest) _ (λ items are. inr refl)
one_kind_by text shape.Attributes forest = ok_then HasOneKind (attributes_from 0 (level text forest) (insides text forest)) _ (λ attrs are. inl refl)
one_kind_by text shape.Accessors forest =
    ok_then HasOneKind (not_an_accessor (accessors_from true 0 (accessor_marks text (level text forest) (one_group forest)))) _ (λ words are. inl refl)
one_kind_by text shape.Expression forest = ok_then HasOneKind (expression (level text forest)) _ (λ fine is. inl refl)

pub one_kind : (text : List ℕ) (shape : Shape) (seen : OutlineSeen) → outline text shape ≡ Ok seen → HasOneKind seen
one_kind text shape seen is =
    let made = shaped text shape seen is in
    ok_at HasOneKind (by_shape text shape made.forest) seen made.by (one_kind_by text shape made.forest)
