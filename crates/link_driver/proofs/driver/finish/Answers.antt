use Rattle.std.proofs.Common.{None, arith, refl}
use Rattle.link_driver.specs.Driven.{done_seen}
use Rattle.link_driver.proofs.Runs.{has_run}
use Rattle.link_driver.proofs.driver.finish.Goals as goal
use Rattle.link_driver.proofs.Tables.{run_table}

pub returns-clause-ran : goal.returns-clause-ran
returns-clause-ran g c = λ wanted before after driven.
    has_run wanted before after (done_seen g.W.Sink.seen g.R.Source.seen c.in_ok-done.done None) refl (c.in_ok-done.ensures.driven wanted before after driven)

pub returns-clause-table : goal.returns-clause-table
returns-clause-table g c = λ table has.
    run_table table (done_seen g.W.Sink.seen g.R.Source.seen c.in_ok-done.done None) refl (c.in_ok-done.ensures.table table has)

pub returns-clause-spent : goal.returns-clause-spent
returns-clause-spent g c = λ spent. omega (arith, c.in_ok-done.ensures.spent spent)
