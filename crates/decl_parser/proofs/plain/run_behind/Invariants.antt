use Rattle.std.proofs.Common.{◌≡◌, drop, Some, false}
use Rattle.swift_lexer.specs.Trees.{forest_of}
use Rattle.element_marks.specs.Fronts.{list_behind}
use Rattle.element_marks.specs.Levels.{own_marks}
use Rattle.decl_parser.specs.Plain.{run_from}
use Rattle.decl_parser.proofs.plain.run_behind.Given as goal

abbrev pub invariant-elements : goal.invariant-elements
invariant-elements l = record {
  runs : run_from 0 l.fn.starter.end false (list_behind (Some l.fn.starter) (own_marks l.text (forest_of l.elements))) ≡ run_from l.run.count l.run.end l.run.joins (list_behind (Some l.previous) (own_marks l.text (forest_of (drop l.element-index l.elements))));
  counted : l.run.count ≡ l.element-index;
  ends : l.run.after ≡ l.run.end;
}
