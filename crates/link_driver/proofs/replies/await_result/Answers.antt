use Rattle.std.proofs.Common.{ap, Some, false, ◌∙◌}
use Rattle.plugin_frames.specs.Cutting.{payloads_of}
use Rattle.link_driver.proofs.Waiting.{read_none, replied_once, reply_says, never_sole, never_long, none_came, fewer_payloads, enough_payloads}
use Rattle.link_driver.proofs.replies.await_result.Goals as goal

pub returns-in-Some-clause-replies : goal.returns-in-Some-clause-replies
returns-in-Some-clause-replies g c = λ said is. replied_once _ _ _ _ said
    (rw c.in-Came.is at (c.in_ok-await_payloads.ensures.read _ (read_none _ _ _ (ap payloads_of c.new-payloads.ensures.items) c.new-frames.ensures c.frames_are_read.ensures.none)))
    (rw c.deref.ensures.value at c.in_ok-outcome.ensures.said said (c.in-Some.is ∙ ap Some (reply_says _ _ is)))

pub returns-clause-other : goal.returns-clause-other
returns-clause-other g c = λ _. never_sole _ _ _ _ c.one_reading.ensures.some c.one_reading.ensures.one c.frames_go_on.ensures.rest
    (rw c.in-Came.is at (c.in_ok-await_payloads.ensures.read _ (read_none _ _ _ (ap payloads_of c.new-payloads.ensures.items) c.new-frames.ensures c.frames_are_read.ensures.none)))
    (enough_payloads _ _ (c.in_ok-await_payloads.ensures.enough c.in-Came.is))
    (rw c.deref.ensures.value at c.in_ok-outcome.ensures.other c.in-None.is)

pub returns-in-Other-clause-other : goal.returns-in-Other-clause-other
returns-in-Other-clause-other g c = λ _. never_long _ _ false c.one_reading.ensures.one c.frames_go_on.ensures.length
    (rw c.in-Other.is at (c.in_ok-await_payloads.ensures.read _ (read_none _ _ _ (ap payloads_of c.new-payloads.ensures.items) c.new-frames.ensures c.frames_are_read.ensures.none)))

pub returns-in-Stopped-clause-stopped : goal.returns-in-Stopped-clause-stopped
returns-in-Stopped-clause-stopped g c = none_came _ _ _ _ c.one_reading.ensures.one
    (rw c.in-Stopped.is at (c.in_ok-await_payloads.ensures.read _ (read_none _ _ _ (ap payloads_of c.new-payloads.ensures.items) c.new-frames.ensures c.frames_are_read.ensures.none)))
    (fewer_payloads _ _ (rw c.in-Stopped.is at c.in_ok-await_payloads.ensures.few))
