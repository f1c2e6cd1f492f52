use Rattle.link_driver.proofs.Runs.{runs_give_links, runs_start_as_wanted, failed_starts_have_causes}
use Rattle.link_driver.proofs.laws.starts_are_wanted.Goals as goal

pub returns-clause-links : goal.returns-clause-links
returns-clause-links c = runs_give_links

pub returns-clause-commands : goal.returns-clause-commands
returns-clause-commands c = runs_start_as_wanted

pub returns-clause-failed : goal.returns-clause-failed
returns-clause-failed c = failed_starts_have_causes
