use Rattle.link_driver.proofs.replies.await_reply.Goals as goal

pub returns-then-is_first-clause-other : goal.returns-then-is_first-clause-other
returns-then-is_first-clause-other g c = rw c.if-is_first.true c.await_both.ensures.other

pub returns-then-is_first-clause-stopped : goal.returns-then-is_first-clause-stopped
returns-then-is_first-clause-stopped g c = rw c.if-is_first.true c.await_both.ensures.stopped

pub returns-clause-other : goal.returns-clause-other
returns-clause-other g c = rw c.if-is_first.false c.await_result.ensures.other

pub returns-clause-stopped : goal.returns-clause-stopped
returns-clause-stopped g c = rw c.if-is_first.false c.await_result.ensures.stopped
