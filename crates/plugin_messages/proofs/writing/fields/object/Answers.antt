use Rattle.std.proofs.Common.{◌∙◌, ◌<◌, sym, ap, arith, map, drop, length, option_map, List, Option}
use Rattle.std.specs.Vec.Iter.{into_iter_items}
use Rattle.serde_json.specs.Data.{object}
use Rattle.serde_json.specs.View.{view, members_view}
use Rattle.serde_json.specs.declared.value.Value.{Value}
use Rattle.serde_json.proofs.Views.{view-Object}
use Rattle.plugin_messages.specs.Written.{object_data, with_fields, labelled}
use Rattle.plugin_messages.proofs.Objects.{row_put, values_end}
use Rattle.plugin_messages.proofs.writing.fields.object.Goals as goal

pub values-preserved : goal.values-preserved
values-preserved c =
    let step = c.in-Some.ensures.steps in
    let more : c.values.index < length c.rows_of-rows.result.now = omega arith in (
      rw c.in_ok-put_optional.ensures (
          sym (row_put (λ row. (row.0.now, row.1, row.2)) c.rows_of-rows.result.now c.values.index _ (option_map view c.in-Some.value) (map (option_map view) (into_iter_items c.next.new.self)) (members_view c.values.fields.entries) more)
          ∙ (ap (λ (l : List (Option Value)). with_fields (labelled (map (λ row. (row.0.now, row.1, row.2)) (drop c.values.index c.rows_of-rows.result.now)) (map (option_map view) l)) (members_view c.values.fields.entries)) (sym step.0)
          ∙ c.values.invariant.0)
          ),
      omega (arith, step.1, ap length step.0, c.values.invariant.1),
    )

pub returns : goal.returns
unfolding object_data
returns c =
    let none = sym c.values.invariant.1 ∙ c.in-None.ensures.steps.0 in
    view-Object c.values.fields ∙ ap object (sym (values_end (option_map view) (map (λ row. (row.0.now, row.1, row.2)) (drop c.values.index c.rows_of-rows.result.now)) (into_iter_items c.values.value-iterator) (members_view c.values.fields.entries) none) ∙ c.values.invariant.0)
