use Rattle.std.proofs.Common.{◌+◌, ◌-◌, length}
use Rattle.link_driver.specs.Links.{Gains, HasNotStopped}
use Rattle.link_driver.specs.declared.link.TheConstants.{MOST_BYTES}
use Rattle.link_driver.proofs.pieces.read_to_stop.Given as goal

abbrev pub invariant-pieces : goal.invariant-pieces
invariant-pieces g l = Gains (g.R.Source.seen l.initial.reader) l.initial.got.items (g.R.Source.seen l.reader) l.got.items × HasNotStopped (g.R.Source.seen l.reader)

abbrev pub decreases-pieces : goal.decreases-pieces
decreases-pieces g l = MOST_BYTES + 1 - length l.got.items
