use Rattle.std.proofs.Common.{◌∙◌, ap, sym, arith, length, length-drop, length-take, take, take_all}
use Rattle.std.proofs.lemmas.Result.{IfOk-weaker}
use Rattle.std.specs.List.{list_any}
use Rattle.swift_lexer.specs.Trees.{forest_of}
use Rattle.element_marks.specs.Levels.{own_marks}
use Rattle.element_marks.specs.Fronts.{is_open, list_behind}
use Rattle.element_marks.proofs.Fronts.{front_is, length_behind, rest_is}
use Rattle.element_marks.proofs.front.front_marks.Goals.{else-length-rest-via-then-length-rest+else-has_open, else-length-rest-via-else-length-rest}
use Rattle.element_marks.proofs.front.front_marks.Goals as goal

pub returns-then-has_open-clause-value : goal.returns-then-has_open-clause-value
returns-then-has_open-clause-value c =
    IfOk-weaker c.marks_behind-then-has_open.result _ _
    (λ marks are. rest_is c.args.text.now c.args.at c.args.elements.now c.elements_behind-rest.result.now c.mark_before-previous.result marks.items c.mark_before-previous.ensures c.elements_behind-rest.ensures are)
    c.marks_behind-then-has_open.ensures

pub returns-then-has_open-clause-enough : goal.returns-then-has_open-clause-enough
returns-then-has_open-clause-enough c =
    let rest = c.elements_behind-rest.result.now in
    IfOk-weaker c.marks_behind-then-has_open.result _ _
    (λ marks are. omega (arith, ap length are, length_behind c.args.text.now c.mark_before-previous.result rest, ap length c.elements_behind-rest.ensures, length-drop c.args.at c.args.elements.now))
    c.marks_behind-then-has_open.ensures

pub returns-else-length-rest-clause-value : goal.returns-else-length-rest-clause-value
returns-else-length-rest-clause-value c =
    let marks = c.in_ok-marks.marks.items in
    let previous = c.mark_before-previous.result in
    let rest = c.elements_behind-rest.result.now in
    let size = c.up_to_wall-length.result in
    elim c.else-length-rest.branch [
      | else-length-rest-via-then-length-rest+else-has_open w ↦
          front_is c.args.text.now c.args.at size c.args.elements.now rest previous marks c.mark_before-previous.ensures c.elements_behind-rest.ensures c.in_ok-marks.ensures c.up_to_wall-length.ensures.walled
          (ap (list_any is_open) (sym w.deref.ensures.value) ∙ sym w.if-has_open.ensures)
      | else-length-rest-via-else-length-rest w ↦
          rest_is c.args.text.now c.args.at c.args.elements.now rest previous marks c.mark_before-previous.ensures c.elements_behind-rest.ensures
          (c.in_ok-marks.ensures ∙ ap (λ l. list_behind previous (own_marks c.args.text.now (forest_of l))) (take_all size rest (omega (arith, w.if-length-rest.false))))
    ]

pub returns-else-length-rest-clause-enough : goal.returns-else-length-rest-clause-enough
returns-else-length-rest-clause-enough c =
    let rest = c.elements_behind-rest.result.now in
    let size = c.up_to_wall-length.result in
    omega (
      arith,
      ap length c.in_ok-marks.ensures,
      length_behind c.args.text.now c.mark_before-previous.result (take size rest),
      length-take size rest,
      c.up_to_wall-length.ensures.within,
      c.up_to_wall-length.ensures.enough,
      ap length c.elements_behind-rest.ensures,
      length-drop c.args.at c.args.elements.now,
    )
