use Rattle.std.proofs.Common.{◌≡◌, ◌++◌, drop, map}
use Rattle.swift_lexer.specs.Trees.{tree_of}
use Rattle.macro_decls.specs.Elements.{joined}
use Rattle.macro_decls.proofs.elements.joined.Given as goal

abbrev pub invariant-elements : goal.invariant-elements
invariant-elements l = l.bytes.items ++ joined l.text (map tree_of (drop l.element-index l.elements)) ≡ joined l.text (map tree_of l.elements)
