use Rattle.std.proofs.Common.{length}
use Rattle.plugin_frames.specs.Cutting.{payloads_of}
use Rattle.plugin_frames.proofs.Cuts.{IsCut}
use Rattle.plugin_frames.proofs.cutting.cut.Given as goal

abbrev pub invariant-frames : goal.invariant-frames
invariant-frames l = IsCut l.bytes l.rest (payloads_of l.payloads.items)

abbrev pub decreases-frames : goal.decreases-frames
decreases-frames l = length l.rest
