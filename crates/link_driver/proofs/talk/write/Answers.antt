use Rattle.link_driver.proofs.Written.{given_whole, given_front}
use Rattle.link_driver.proofs.talk.write.Goals as goal

pub returns-in-Ok : goal.returns-in-Ok
returns-in-Ok g c = λ bytes holds. given_whole bytes _ _ _ holds c.in-Ok.ensures.all c.write_all.ensures.closing

pub returns-in-Err : goal.returns-in-Err
returns-in-Err g c = λ bytes holds. given_front bytes _ _ _ holds c.in-Err.ensures.front c.in-Err.ensures.failed c.write_all.ensures.faults c.write_all.ensures.closing
