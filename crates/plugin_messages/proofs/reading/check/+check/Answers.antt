use Rattle.std.proofs.Common.{◌<◌, length, arith, refl, sym, subst, map, List}
use Rattle.serde_json.specs.declared.value.Value.{Value}
use Rattle.plugin_messages.specs.Answers.{Answers}
use Rattle.std.proofs.lemmas.Result.{err_from_is_err_and}
use Rattle.serde_json.specs.View.{view}
use Rattle.plugin_messages.specs.Fields.{present}
use Rattle.plugin_messages.specs.Checked.{all_checked, value_checked, found_checked, rows_checked, object_checked}
use Rattle.plugin_messages.proofs.Checks.{goes_on_to, stops_at, all_passed, objects_checked}
use Rattle.plugin_messages.proofs.reading.check.+check.Goals as goal

pub check_items-items-preserved : goal.check_items-items-preserved
check_items-items-preserved t c =
    let more : c.items.item-index < length c.args.items.now = omega arith in
    goes_on_to (object_checked c.args.depth c.args.shape c.args.label.now) view c.args.items.now c.items.item-index c.item-item.result c.item-item.result more c.item-item.is c.in_ok-check_object.ensures c.items.invariant

pub check_items-returns-in_err-check_object : goal.check_items-returns-in_err-check_object
check_items-returns-in_err-check_object t c =
    let more : c.items.item-index < length c.args.items.now = omega arith in
    let p = err_from_is_err_and c.from_residual.result c.from_residual.ensures.1 in
    rw (p.1, p.2) (stops_at (object_checked c.args.depth c.args.shape c.args.label.now) view c.args.items.now c.items.item-index c.item-item.result c.item-item.result c.in_err-check_object.field-0.0 more c.item-item.is c.in_err-check_object.ensures c.items.invariant)

pub check_items-returns : goal.check_items-returns
check_items-returns t c =
    all_passed (object_checked c.args.depth c.args.shape c.args.label.now) view c.args.items.now c.items.item-index c.items-test.false c.items.invariant

pub check_rows-rows-preserved : goal.check_rows-rows-preserved
check_rows-rows-preserved t c =
    let more : c.rows.row-index < length c.args.rows.now = omega arith in
    goes_on_to (λ row. found_checked (object_checked c.args.depth) row (present row.0 (view c.args.value.now))) (λ row. (row.0.now, row.1, row.2)) c.args.rows.now c.rows.row-index _ _ more refl c.in_ok-check_row.ensures c.rows.invariant

pub check_rows-returns-in_err-check_row : goal.check_rows-returns-in_err-check_row
unfolding rows_checked
check_rows-returns-in_err-check_row t c =
    let more : c.rows.row-index < length c.args.rows.now = omega arith in
    let p = err_from_is_err_and c.from_residual.result c.from_residual.ensures.1 in
    rw (p.1, p.2) (
    stops_at (λ row. found_checked (object_checked c.args.depth) row (present row.0 (view c.args.value.now))) (λ row. (row.0.now, row.1, row.2)) c.args.rows.now c.rows.row-index _ _ c.in_err-check_row.field-0.0 more refl c.in_err-check_row.ensures c.rows.invariant
    )

pub check_rows-returns : goal.check_rows-returns
unfolding rows_checked
check_rows-returns t c =
    all_passed (λ row. found_checked (object_checked c.args.depth) row (present row.0 (view c.args.value.now))) (λ row. (row.0.now, row.1, row.2)) c.args.rows.now c.rows.row-index c.rows-test.false c.rows.invariant

pub check_value-returns-in-Some : goal.check_value-returns-in-Some
unfolding value_checked
check_value-returns-in-Some t c =
    rw c.in-Objects.is (objects_checked (object_checked c.args.depth c.in-Objects.shape c.args.label.now) c.args.label.now (view c.args.value.now) c.in-Some.items.now.items c.check_items.result (sym c.in-Some.ensures)
    (subst (λ (l : List Value). Answers c.check_items.result (all_checked (object_checked c.args.depth c.in-Objects.shape c.args.label.now) (map view l))) c.deref.ensures.value c.check_items.ensures))
