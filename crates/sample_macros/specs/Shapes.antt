-- What the code sees of one element. This project's own.
use Rattle.std.specs.Prelude.{ℕ, if◌then◌else◌, Option, Some, None, List}
use Rattle.swift_lexer.specs.Trees.{Tree, leaf, nest, Forest, forest_of}
use Rattle.sample_macros.specs.Use.{is_round}
use Rattle.sample_macros.specs.declared.argument.Shape.{Shape}
use Rattle.sample_macros.specs.declared.argument.Shape.TheVariants as shape

abbrev pub tree_seen : Shape → Tree
tree_seen (shape.Leaf token) = leaf token
tree_seen (shape.Nest left inner right) = nest left (forest_of inner.now) right

-- what stands in a group in round brackets
abbrev pub round_in : List ℕ → Tree → Option Forest
round_in text (leaf token) = None
round_in text (nest left inner right) = if is_round text left then Some inner else None
