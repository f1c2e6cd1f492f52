use Rattle.std.proofs.Common.{◌≡◌, ◌+◌, ◌<◌, ◌^◌, ◌++◌, drop}
use Rattle.swift_lexer.specs.Trees.{forest_of}
use Rattle.element_marks.specs.Heads.{with_joins}
use Rattle.element_marks.specs.Levels.{own_marks}
use Rattle.element_marks.specs.Passes.{closes_of, opens_of}
use Rattle.element_marks.proofs.level.joined_marks.Given as goal

abbrev pub invariant-elements : goal.invariant-elements
invariant-elements l = record {
  done : l.marks.items ++ with_joins l.previous (own_marks l.text (forest_of (drop l.element-index l.elements))) ≡ with_joins l.fn.before (own_marks l.text (forest_of l.elements));
  opened : l.opened + opens_of (with_joins l.previous (own_marks l.text (forest_of (drop l.element-index l.elements)))) ≡ opens_of (with_joins l.fn.before (own_marks l.text (forest_of l.elements)));
  closed : l.closed + closes_of (with_joins l.previous (own_marks l.text (forest_of (drop l.element-index l.elements)))) ≡ closes_of (with_joins l.fn.before (own_marks l.text (forest_of l.elements)));
  few : l.opened + l.closed < 2 ^ 32;
}
