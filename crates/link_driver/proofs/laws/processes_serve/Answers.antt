use Rattle.link_driver.proofs.Runs.{processes_serve, stops_have_causes}
use Rattle.link_driver.proofs.laws.processes_serve.Goals as goal

pub returns-clause-serves : goal.returns-clause-serves
returns-clause-serves c = processes_serve

pub returns-clause-stops : goal.returns-clause-stops
returns-clause-stops c = stops_have_causes
