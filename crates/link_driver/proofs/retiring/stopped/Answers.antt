use Rattle.std.proofs.Common.{subst, option_map}
use Rattle.link_driver.specs.Driven.{done_seen, IsDriven, IsSpent}
use Rattle.link_driver.specs.Links.{running_seen}
use Rattle.link_driver.proofs.retiring.stopped.Goals as goal
use Rattle.link_driver.specs.Told.{HasTable}

pub returns-in-Some-clause-driven : goal.returns-in-Some-clause-driven
returns-in-Some-clause-driven g c = λ wanted before after driven.
    c.with_retired.ensures.driven wanted before after
    (subst (λ r. IsDriven wanted before (done_seen g.W.Sink.seen g.R.Source.seen c.args.driver.done (option_map (running_seen g.W.Sink.seen g.R.Source.seen) r)) after)
    c.in-Some.is driven)

pub returns-in-Some-clause-table : goal.returns-in-Some-clause-table
returns-in-Some-clause-table g c = λ table has.
    c.with_retired.ensures.table table
    (subst (λ r. HasTable table (done_seen g.W.Sink.seen g.R.Source.seen c.args.driver.done (option_map (running_seen g.W.Sink.seen g.R.Source.seen) r)))
    c.in-Some.is has)

pub returns-in-Some-clause-spent : goal.returns-in-Some-clause-spent
returns-in-Some-clause-spent g c = λ spent.
    c.with_retired.ensures.spent
    (subst (λ r. IsSpent (done_seen g.W.Sink.seen g.R.Source.seen c.args.driver.done (option_map (running_seen g.W.Sink.seen g.R.Source.seen) r)))
    c.in-Some.is spent)
