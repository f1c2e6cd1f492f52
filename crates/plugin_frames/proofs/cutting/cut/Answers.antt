use Rattle.plugin_frames.proofs.Cuts.{IsCut-more, IsCut-rest, IsCut-length}
use Rattle.plugin_frames.proofs.cutting.cut.Goals as goal

pub frames-preserved : goal.frames-preserved
frames-preserved c = IsCut-more _ _ _ _ _ _ _ c.frames.invariant c.in-Frame.ensures.0 c.in_ok-from_slice-in-Frame.ensures.items c.in_ok-push-in-Frame.ensures.items

pub returns-in-TooLong : goal.returns-in-TooLong
returns-in-TooLong c = IsCut-length _ _ _ _ c.frames.invariant c.in-TooLong.ensures

pub returns-in-Unfinished : goal.returns-in-Unfinished
returns-in-Unfinished c = IsCut-rest _ _ _ c.frames.invariant c.in-Unfinished.ensures
