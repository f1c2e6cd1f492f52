use Rattle.expand_top.specs.Run.{whole, out_failed, err_failed}
use Rattle.std.proofs.Common.{refl}
use Rattle.expand_top.proofs.driver.deliver.Goals as goal

pub returns-in_default : goal.returns-in_default
returns-in_default g c = out_failed c.in_default.ensures.front refl

pub returns-in_default-put : goal.returns-in_default-put
returns-in_default-put g c = err_failed c.in-Ok.ensures.all c.in_default-put.ensures.front

pub returns : goal.returns
returns g c = whole c.in-Ok.ensures.all c.in-Ok-put.ensures.all
