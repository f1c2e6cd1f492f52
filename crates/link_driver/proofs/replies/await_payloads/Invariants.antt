use Rattle.std.proofs.Common.{◌≡◌, ℕ, List, ◌++◌, ◌+◌, ◌-◌, length}
use Rattle.plugin_frames.specs.Cutting.{payloads_of}
use Rattle.link_driver.specs.Awaiting.{HasRead}
use Rattle.link_driver.specs.Links.{Gains, HasNotStopped}
use Rattle.link_driver.specs.declared.link.TheConstants.{MOST_BYTES}
use Rattle.link_driver.proofs.replies.await_payloads.Given as goal

abbrev pub invariant-pieces : goal.invariant-pieces
invariant-pieces g l = record {
  gains : Gains (g.R.Source.seen l.initial.reader) l.initial.got.items (g.R.Source.seen l.reader) l.got.items;
  goes_on : HasNotStopped (g.R.Source.seen l.reader);
  grows : (more : List (List ℕ)) × (payloads_of l.payloads.items ≡ payloads_of l.initial.payloads.items ++ more);
  read : (start : List ℕ) → HasRead start l.initial.got.items (payloads_of l.initial.payloads.items) l.initial.frames
      → HasRead start l.got.items (payloads_of l.payloads.items) l.frames;
}

abbrev pub decreases-pieces : goal.decreases-pieces
decreases-pieces g l = MOST_BYTES + 1 - length l.got.items
