use Rattle.link_driver.proofs.Waiting.{met_fault}
use Rattle.link_driver.proofs.replies.await_payloads.Goals as goal

pub returns-in-Err-Fault-clause-read : goal.returns-in-Err-Fault-clause-read
returns-in-Err-Fault-clause-read g c = λ start has. met_fault start _ _ _ _ _ _ _ _ _ c.in-Err-Fault.field-0-0 c.frames_go_on.ensures.rest
    (c.pieces.invariant.read start has) c.in_ok-stop.ensures.gains (rw (c.deref.ensures.value, c.len-before.ensures, c.pieces.got.ok.0) at c.behind.ensures)
    (rw c.in-Err-Fault.field-0-is at c.in-Err-Fault.ensures.refused)
