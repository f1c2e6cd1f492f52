use Rattle.link_driver.proofs.Replied.{only_last_keys_fail}
use Rattle.link_driver.proofs.laws.only_last_keys_fail.Goals as goal

pub returns : goal.returns
returns c = only_last_keys_fail c.one_reading.ensures.some c.one_reading.ensures.one c.frames_go_on.ensures.rest
