use Rattle.link_driver.proofs.Runs.{runs_ask_once, nothing_wanted_nothing_done}
use Rattle.link_driver.proofs.laws.each_request_is_asked_once.Goals as goal

pub returns-clause-once : goal.returns-clause-once
returns-clause-once c = runs_ask_once

pub returns-clause-none : goal.returns-clause-none
returns-clause-none c = nothing_wanted_nothing_done
