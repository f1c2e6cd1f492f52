use Rattle.std.proofs.Common.{arith}
use Rattle.expand_top.proofs.Promises.{status_has_cause}
use Rattle.expand_top.proofs.driver.run_expand.Goals as goal

pub returns-clause-memory : goal.returns-clause-memory
returns-clause-memory g c = λ five.
    let cause = status_has_cause _ _ _ _ _ _ (g.F.Files.seen c.args.files.now) (g.F.Files.seen c.expand.new.files) _ _ _ _ _ c.in-Ok.ensures.read c.in-Ok.ensures.expansion c.deliver-status.ensures in
    absurd (omega (arith, cause.range, five))
