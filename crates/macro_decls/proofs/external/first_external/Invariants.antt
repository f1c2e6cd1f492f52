use Rattle.std.proofs.Common.{◌≡◌, length, map}
use Rattle.swift_lexer.specs.Trees.{tree_of}
use Rattle.macro_decls.specs.External.{external_in}
use Rattle.macro_decls.proofs.external.first_external.Given as goal

abbrev pub invariant-elements : goal.invariant-elements
invariant-elements l = external_in l.text (map tree_of l.elements) ≡ external_in l.text (map tree_of l.rest)

abbrev pub decreases-elements : goal.decreases-elements
decreases-elements l = length l.rest
