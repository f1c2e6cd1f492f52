use Rattle.std.proofs.Common.{◌≡◌, map, drop, length, option_map}
use Rattle.std.specs.Vec.Iter.{into_iter_items, into_iter_len}
use Rattle.serde_json.specs.Data.{no_members}
use Rattle.serde_json.specs.View.{view, members_view}
use Rattle.plugin_messages.specs.Rows.{rows_of}
use Rattle.plugin_messages.specs.Written.{with_fields, labelled}
use Rattle.plugin_messages.proofs.writing.fields.object.Given as goal

-- the values that are left complete the object
abbrev pub invariant-values : goal.invariant-values
invariant-values l =
    (with_fields (labelled (map (λ row. (row.0.now, row.1, row.2)) (drop l.index l.rows)) (map (option_map view) (into_iter_items l.value-iterator))) (members_view l.fields.entries)
    ≡ with_fields (labelled (rows_of l.fn.shape) (map (option_map view) l.fn.values.items)) no_members)
    × (into_iter_len l.value-iterator ≡ length (into_iter_items l.value-iterator))
