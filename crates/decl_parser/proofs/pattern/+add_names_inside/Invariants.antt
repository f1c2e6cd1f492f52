use Rattle.std.proofs.Common.{◌≡◌, ◌++◌, drop}
use Rattle.swift_lexer.specs.Trees.{forest_of, tree_of}
use Rattle.decl_parser.specs.Bindings.{names_inside, names_of}
use Rattle.decl_parser.proofs.pattern.+add_names_inside.Given as goal

abbrev pub invariant-inner : goal.invariant-inner
invariant-inner l = (l.names.items ++ names_of l.text (forest_of (drop l.part-index l.inner)) ≡ l.fn.names.items ++ names_inside l.text (tree_of l.element)) × (l.rest ≡ drop l.part-index l.inner)
