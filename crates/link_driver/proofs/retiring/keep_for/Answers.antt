use Rattle.std.proofs.Common.{sym, subst, option_map}
use Rattle.std.specs.List.{Contains}
use Rattle.link_driver.specs.Driven.{done_seen, driver_seen, IsDriven}
use Rattle.link_driver.specs.Links.{running_seen}
use Rattle.link_driver.specs.Told.{HasTable, driver_keys}
use Rattle.link_driver.proofs.retiring.keep_for.Goals as goal

pub returns-then-eq-clause-keys : goal.returns-then-eq-clause-keys
returns-then-eq-clause-keys g c = λ key.
    let ws = g.W.Sink.seen in
    let rs = g.R.Source.seen in
    let driver = c.args.driver in
    subst (λ r. Contains (driver_keys (done_seen ws rs driver.done (option_map (running_seen ws rs) r))) key → Contains (driver_keys (driver_seen ws rs driver)) key)
    c.in-Some.is (λ is_in. is_in)

pub returns-clause-driven : goal.returns-clause-driven
returns-clause-driven g c = λ wanted before after driven.
    let ws = g.W.Sink.seen in
    let rs = g.R.Source.seen in
    c.in_ok-done.ensures.driven wanted before after
    (subst (λ r. IsDriven wanted before (done_seen ws rs c.args.driver.done (option_map (running_seen ws rs) r)) after) c.in-Some.is driven)

pub returns-clause-table : goal.returns-clause-table
returns-clause-table g c = λ table has.
    let ws = g.W.Sink.seen in
    let rs = g.R.Source.seen in
    c.in_ok-done.ensures.table table (subst (λ r. HasTable table (done_seen ws rs c.args.driver.done (option_map (running_seen ws rs) r))) c.in-Some.is has)

pub returns-clause-keys : goal.returns-clause-keys
returns-clause-keys g c = λ key is_in.
    let ws = g.W.Sink.seen in
    let rs = g.R.Source.seen in
    subst (λ r. Contains (driver_keys (done_seen ws rs c.args.driver.done (option_map (running_seen ws rs) r))) key) (sym c.in-Some.is)
    (c.in_ok-done.ensures.keys key is_in)
