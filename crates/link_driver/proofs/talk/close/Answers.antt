use Rattle.std.proofs.Common.{◌∙◌, refl}
use Rattle.link_driver.proofs.Written.{closed_after, nothing_taken}
use Rattle.link_driver.proofs.talk.close.Goals as goal

pub returns-in-Ok : goal.returns-in-Ok
returns-in-Ok g c = λ earlier last write_failed given. closed_after earlier last write_failed _ _ given (c.in-Ok.ensures.taken ∙ nothing_taken _ _) c.write.ensures.faults (c.write.ensures.closed refl)

pub returns-in-Err : goal.returns-in-Err
returns-in-Err g c = λ earlier last write_failed given. closed_after earlier last write_failed _ _ given c.in-Err.ensures.kept c.write.ensures.faults (c.write.ensures.closed refl)
