use Rattle.std.proofs.Common.{◌≡◌}
use Rattle.plugin_frames.specs.Cutting.{payloads_of}
use Rattle.link_driver.specs.LinkTable.{outcome_at, each_below}
use Rattle.link_driver.proofs.table.link_table.Given as goal

abbrev pub invariant-keys : goal.invariant-keys
invariant-keys g l =
    l.table.items ≡ each_below (outcome_at l.count (payloads_of l.given.payloads.items) l.given.too_long l.link.stop l.link.write_failed) l.number
