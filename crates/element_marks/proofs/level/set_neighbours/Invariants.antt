use Rattle.std.proofs.Common.{◌≡◌, ◌+◌, ◌≤◌, length, drop}
use Rattle.element_marks.specs.Passes.{closes_of, opens_of}
use Rattle.element_marks.proofs.AnglePart.{IsTable}
use Rattle.element_marks.proofs.Backward.{finished}
use Rattle.element_marks.proofs.Starting.{settled}
use Rattle.element_marks.proofs.level.set_neighbours.Given as goal

abbrev pub invariant-elements : goal.invariant-elements
invariant-elements l = record {
  within : l.at ≤ length l.fn.marks;
  done : l.marks ≡ finished settled l.at l.fn.marks;
  size : length l.behind ≡ opens_of l.fn.marks + closes_of l.fn.marks + 1;
  table : IsTable l.behind l.at l.depth (drop l.at l.fn.marks);
  balance : l.depth + opens_of (drop l.at l.fn.marks) ≡ opens_of l.fn.marks + closes_of (drop l.at l.fn.marks);
  shape : length l.marks ≡ length l.fn.marks;
}

abbrev pub decreases-elements : goal.decreases-elements
decreases-elements l = l.at
