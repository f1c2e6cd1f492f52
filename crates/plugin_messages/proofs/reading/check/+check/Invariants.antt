use Rattle.std.proofs.Common.{◌+◌, ◌*◌}
use Rattle.serde_json.specs.View.{view}
use Rattle.plugin_messages.specs.Fields.{present}
use Rattle.plugin_messages.specs.Checked.{found_checked, object_checked}
use Rattle.plugin_messages.proofs.Checks.{RestDecides}
use Rattle.plugin_messages.proofs.reading.check.+check.Given as goal

abbrev pub decreases-check_object : goal.decreases-check_object
decreases-check_object l = 5 * l.depth

abbrev pub decreases-check_items : goal.decreases-check_items
decreases-check_items l = 5 * l.depth + 1

abbrev pub decreases-check_value : goal.decreases-check_value
decreases-check_value l = 5 * l.depth + 2

abbrev pub decreases-check_row : goal.decreases-check_row
decreases-check_row l = 5 * l.depth + 3

abbrev pub decreases-check_rows : goal.decreases-check_rows
decreases-check_rows l = 5 * l.depth + 4

abbrev pub invariant-check_items-items : goal.invariant-check_items-items
invariant-check_items-items l = RestDecides (object_checked l.depth l.shape l.label) view l.items l.item-index

abbrev pub invariant-check_rows-rows : goal.invariant-check_rows-rows
invariant-check_rows-rows l =
    RestDecides (λ row. found_checked (object_checked l.depth) row (present row.0 (view l.value))) (λ row. (row.0.now, row.1, row.2)) l.rows l.row-index
