use Rattle.std.proofs.Common.{ap, Some, true, sym, ◌∙◌}
use Rattle.plugin_frames.specs.Cutting.{payloads_of}
use Rattle.link_driver.proofs.Waiting.{read_none, replied_both, some_payloads, reply_says, never_both, never_greeted, never_long, not_both_came, one_fewer, fewer_payloads, enough_payloads}
use Rattle.link_driver.proofs.Written.{gains_more}
use Rattle.link_driver.proofs.replies.await_both.Goals as goal

pub returns-in-Some-2-clause-replies : goal.returns-in-Some-2-clause-replies
returns-in-Some-2-clause-replies g c =
    λ said is. replied_both _ _ _ _ _ _ _ _ said
    (rw c.in-Came-2.is at (c.in_ok-await_payloads-2.ensures.read _
    (rw c.in-Came.is at (c.in_ok-await_payloads.ensures.read _ (read_none _ _ _ (ap payloads_of c.new-payloads.ensures.items) c.new-frames.ensures c.frames_are_read.ensures.none)))))
    (some_payloads _ (c.in_ok-await_payloads.ensures.enough c.in-Came.is))
    (sym (rw c.deref.ensures.value at c.in_ok-greets_badly.ensures) ∙ c.if-branch.false)
    c.in_ok-await_payloads-2.ensures.grows.1
    (ap payloads_of (sym c.deref-2.ensures.value ∙ c.in-Some.ensures.cases.0)) (c.in_ok-outcome.ensures.said said (c.in-Some-2.is ∙ ap Some (reply_says _ _ is)))

pub returns-in-Other-clause-other : goal.returns-in-Other-clause-other
returns-in-Other-clause-other g c = λ _. never_long _ _ true c.one_reading.ensures.one c.frames_go_on.ensures.length
    (rw c.in-Other.is at (c.in_ok-await_payloads.ensures.read _ (read_none _ _ _ (ap payloads_of c.new-payloads.ensures.items) c.new-frames.ensures c.frames_are_read.ensures.none)))

pub returns-in-Stopped-clause-stopped : goal.returns-in-Stopped-clause-stopped
returns-in-Stopped-clause-stopped g c = not_both_came _ _ _ _ c.one_reading.ensures.one
    (rw c.in-Stopped.is at (c.in_ok-await_payloads.ensures.read _ (read_none _ _ _ (ap payloads_of c.new-payloads.ensures.items) c.new-frames.ensures c.frames_are_read.ensures.none)))
    (one_fewer _ (fewer_payloads _ _ (rw c.in-Stopped.is at c.in_ok-await_payloads.ensures.few)))

pub returns-then-branch-clause-other : goal.returns-then-branch-clause-other
returns-then-branch-clause-other g c = λ _. never_greeted _ _ _ _ c.one_reading.ensures.some c.one_reading.ensures.one c.frames_go_on.ensures.rest
    (rw c.in-Came.is at (c.in_ok-await_payloads.ensures.read _ (read_none _ _ _ (ap payloads_of c.new-payloads.ensures.items) c.new-frames.ensures c.frames_are_read.ensures.none)))
    (some_payloads _ (c.in_ok-await_payloads.ensures.enough c.in-Came.is))
    (sym (rw c.deref.ensures.value at c.in_ok-greets_badly.ensures) ∙ c.if-branch.true)

pub returns-in-Other-2-clause-gains : goal.returns-in-Other-2-clause-gains
returns-in-Other-2-clause-gains g c = gains_more _ _ _ _ _ _ c.in_ok-await_payloads.ensures.gains c.in_ok-await_payloads-2.ensures.gains

pub returns-in-Other-2-clause-other : goal.returns-in-Other-2-clause-other
returns-in-Other-2-clause-other g c = λ _. never_long _ _ true c.one_reading.ensures.one c.frames_go_on.ensures.length
    (rw c.in-Other-2.is at (c.in_ok-await_payloads-2.ensures.read _
    (rw c.in-Came.is at (c.in_ok-await_payloads.ensures.read _ (read_none _ _ _ (ap payloads_of c.new-payloads.ensures.items) c.new-frames.ensures c.frames_are_read.ensures.none)))))

pub returns-in-Stopped-2-clause-gains : goal.returns-in-Stopped-2-clause-gains
returns-in-Stopped-2-clause-gains g c = gains_more _ _ _ _ _ _ c.in_ok-await_payloads.ensures.gains c.in_ok-await_payloads-2.ensures.gains

pub returns-in-Stopped-2-clause-stopped : goal.returns-in-Stopped-2-clause-stopped
returns-in-Stopped-2-clause-stopped g c = not_both_came _ _ _ _ c.one_reading.ensures.one
    (rw c.in-Stopped-2.is at (c.in_ok-await_payloads-2.ensures.read _
    (rw c.in-Came.is at (c.in_ok-await_payloads.ensures.read _ (read_none _ _ _ (ap payloads_of c.new-payloads.ensures.items) c.new-frames.ensures c.frames_are_read.ensures.none)))))
    (fewer_payloads _ _ (rw c.in-Stopped-2.is at c.in_ok-await_payloads-2.ensures.few))

pub returns-in-Some-2-clause-gains : goal.returns-in-Some-2-clause-gains
returns-in-Some-2-clause-gains g c = gains_more _ _ _ _ _ _ c.in_ok-await_payloads.ensures.gains c.in_ok-await_payloads-2.ensures.gains

pub returns-clause-gains : goal.returns-clause-gains
returns-clause-gains g c = gains_more _ _ _ _ _ _ c.in_ok-await_payloads.ensures.gains c.in_ok-await_payloads-2.ensures.gains

pub returns-clause-other : goal.returns-clause-other
returns-clause-other g c = λ _. never_both _ _ _ _ _ _ c.one_reading.ensures.some c.one_reading.ensures.one c.frames_go_on.ensures.rest
    (rw c.in-Came-2.is at (c.in_ok-await_payloads-2.ensures.read _
    (rw c.in-Came.is at (c.in_ok-await_payloads.ensures.read _ (read_none _ _ _ (ap payloads_of c.new-payloads.ensures.items) c.new-frames.ensures c.frames_are_read.ensures.none)))))
    (enough_payloads _ _ (c.in_ok-await_payloads-2.ensures.enough c.in-Came-2.is))
    (ap payloads_of (sym c.deref-2.ensures.value ∙ c.in-Some.ensures.cases.0)) (c.in_ok-outcome.ensures.other c.in-None.is)
