use Rattle.std.proofs.Common.{◌≡◌, sym, ap, ◌∙◌}
use Rattle.plugin_frames.specs.declared.refusal.FrameFault.TheVariants.{TooLong}
use Rattle.plugin_frames.specs.Frames.{Rest}
use Rattle.plugin_frames.specs.Holding.{tail_held}
use Rattle.plugin_frames.proofs.Feedings.{left_is_unfinished, no_length, one_length}
use Rattle.plugin_frames.proofs.reader.FrameReader.feed.Goals as goal

pub invariant_of-self-in-None : goal.invariant_of-self-in-None
invariant_of-self-in-None c = left_is_unfinished _ _ _ _ (rw c.in-None.is at c.in_ok-read_on-in-Rest.ensures.ok)

pub invariant_of-self-in-Some-Rest : goal.invariant_of-self-in-Some-Rest
invariant_of-self-in-Some-Rest c = left_is_unfinished _ _ _ _ (rw (c.in-Some-Rest.is, c.in-Some-Rest.field-0-is) at c.in_ok-read_on-in-Rest.ensures.ok)

pub returns-in-None-clause-too_long : goal.returns-in-None-clause-too_long
returns-in-None-clause-too_long c rest payloads len e f =
    let same : Rest c.in-Rest.rest.items ≡ Rest rest = ap tail_held (sym c.in-Rest.is) ∙ c.self.view_is ∙ e in
    no_length _ _ _ _ _ _ payloads len same (rw c.in-None.is at c.in_ok-read_on-in-Rest.ensures.ok) f

pub returns-in-Some-Length-clause-too_long : goal.returns-in-Some-Length-clause-too_long
returns-in-Some-Length-clause-too_long c rest payloads len e f =
    let same : Rest c.in-Rest.rest.items ≡ Rest rest = ap tail_held (sym c.in-Rest.is) ∙ c.self.view_is ∙ e in
    ap TooLong (one_length _ _ _ _ _ payloads _ len same (rw (c.in-Some-Length.is, c.in-Some-Length.field-0-is) at c.in_ok-read_on-in-Rest.ensures.ok) f)

pub returns-in-Some-Rest-clause-too_long : goal.returns-in-Some-Rest-clause-too_long
returns-in-Some-Rest-clause-too_long c rest payloads len e f =
    let same : Rest c.in-Rest.rest.items ≡ Rest rest = ap tail_held (sym c.in-Rest.is) ∙ c.self.view_is ∙ e in
    no_length _ _ _ _ _ _ payloads len same (rw (c.in-Some-Rest.is, c.in-Some-Rest.field-0-is) at c.in_ok-read_on-in-Rest.ensures.ok) f
