use Rattle.std.proofs.Common.{◌≡◌, ◌∙◌, ◌∷◌, ◌+◌, ap, refl, sym, arith, suc, drop, Some}
use Rattle.swift_lexer.specs.Trees.{forest_of, tree_of}
use Rattle.swift_lexer.proofs.Trees.{forest_of-drop}
use Rattle.element_marks.specs.declared.mark.Mark.{Mark}
use Rattle.element_marks.specs.Fronts.{list_behind}
use Rattle.element_marks.specs.Heads.{with_joins}
use Rattle.element_marks.specs.Levels.{own_marks}
use Rattle.element_marks.specs.Marks.{joins, mark_of}
use Rattle.decl_parser.specs.Plain.{run_from, set_by}
use Rattle.decl_parser.proofs.PlainRuns.{run_on, run_stops}
use Rattle.decl_parser.proofs.plain.run_behind.Goals as goal

pub returns-then-branch-clause-run : goal.returns-then-branch-clause-run
returns-then-branch-clause-run c =
    let text = c.args.text.now in
    let elements = c.args.elements.now in
    let run = c.elements.run in
    let element = c.element-item.result in
    let rest = own_marks text (forest_of (drop (c.elements.element-index + 1) elements)) in
    let own : mark_of text (tree_of element) ≡ c.mark_of-own.result = sym c.mark_of-own.ensures in
    let joined : joins (Some c.elements.previous) (mark_of text (tree_of element)) (mark_of text (tree_of element)).sort ≡ c.joins.result =
    ap (λ m. joins (Some c.elements.previous) m m.sort) own ∙ sym c.joins.ensures in
    let mark : Mark = record c.mark_of-own.result { joins = c.joins.result } in
    let behind = with_joins (Some c.mark_of-own.result) rest in
    let here : list_behind (Some c.elements.previous) (own_marks text (forest_of (drop c.elements.element-index elements))) ≡ set_by (mark ∷ behind) =
    ap (λ f. list_behind (Some c.elements.previous) (own_marks text f)) (forest_of-drop elements c.elements.element-index element c.elements-test.true c.element-item.is)
    ∙ (λ i. set_by (record (own i) { joins = joined i } ∷ with_joins (Some (own i)) rest)) in
    sym (c.elements.invariant.runs
    ∙ ap (run_from run.count run.end run.joins) here
    ∙ run_stops run.count run.end run.joins mark behind (sym c.if-branch.true ∙ c.in_ok-stops_at.ensures behind)
    ∙ ap (λ a. Some (record { count = run.count; end = run.end; joins = run.joins; after = a })) (sym (c.after_mark.ensures behind)))

pub elements-preserved : goal.elements-preserved
elements-preserved c =
    let text = c.args.text.now in
    let elements = c.args.elements.now in
    let run = c.elements.run in
    let element = c.element-item.result in
    let rest = own_marks text (forest_of (drop (c.elements.element-index + 1) elements)) in
    let own : mark_of text (tree_of element) ≡ c.mark_of-own.result = sym c.mark_of-own.ensures in
    let joined : joins (Some c.elements.previous) (mark_of text (tree_of element)) (mark_of text (tree_of element)).sort ≡ c.joins.result =
    ap (λ m. joins (Some c.elements.previous) m m.sort) own ∙ sym c.joins.ensures in
    let mark : Mark = record c.mark_of-own.result { joins = c.joins.result } in
    let behind = with_joins (Some c.mark_of-own.result) rest in
    let here : list_behind (Some c.elements.previous) (own_marks text (forest_of (drop c.elements.element-index elements))) ≡ set_by (mark ∷ behind) =
    ap (λ f. list_behind (Some c.elements.previous) (own_marks text f)) (forest_of-drop elements c.elements.element-index element c.elements-test.true c.element-item.is)
    ∙ (λ i. set_by (record (own i) { joins = joined i } ∷ with_joins (Some (own i)) rest)) in
    let more : suc run.count ≡ run.count + 1 = omega arith in
    record {
      runs = c.elements.invariant.runs
          ∙ ap (run_from run.count run.end run.joins) here
          ∙ run_on run.count run.end run.joins mark behind (sym c.if-branch.false ∙ c.in_ok-stops_at.ensures behind) (sym c.if-not-is_plain.false ∙ c.is_plain.ensures)
          ∙ ap (λ n. run_from n mark.end mark.joins (set_by behind)) more;
      counted = ap (λ n. n + 1) c.elements.invariant.counted;
      ends = refl;
    }
