use Rattle.std.proofs.Common.{◌≡◌, ◌+◌, ◌*◌, ◌^◌, ◌≤◌, drop, map}
use Rattle.swift_lexer.specs.Trees.{tree_of}
use Rattle.macro_decls.specs.Arguments.{before_comma}
use Rattle.macro_decls.proofs.arguments.before_comma.Given as goal

abbrev pub invariant-elements : goal.invariant-elements
invariant-elements l =
    (l.count + before_comma l.text l.opened l.closed (map tree_of (drop l.element-index l.elements)) ≡ before_comma l.text 0 0 (map tree_of l.elements))
    × (l.count ≡ l.element-index) × (l.opened ≤ l.element-index * 2 ^ 64) × (l.closed ≤ l.element-index * 2 ^ 64)
