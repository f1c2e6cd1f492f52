use Rattle.std.proofs.Common.{◌≡◌, ap, sym, subst, ◌∙◌, nat_le, false, Option, option_map, Some, None}
use Rattle.link_driver.specs.Driven.{DriverSeen, done_seen, driver_seen, IsDriven, RunsFor, running_bytes}
use Rattle.link_driver.specs.Links.{RunningSeen, running_seen}
use Rattle.link_driver.specs.Requests.{wanted_of}
use Rattle.link_driver.proofs.Turns.{left_over, asked_again, some_room}
use Rattle.link_driver.proofs.Written.{by_one}
use Rattle.link_driver.proofs.driver.ask.Goals as goal
use Rattle.link_driver.specs.Requests.{bytes_for}
use Rattle.link_driver.specs.Told.{HasTable, driver_keys}
use Rattle.std.specs.List.{Contains}
use Rattle.link_driver.proofs.Kept.{keeps_links, asked_again_keeps}
use Rattle.link_driver.proofs.Tables.{left_table, asked_again_table, asked_spent, filled}

pub returns-then-is_spent-clause-driven : goal.returns-then-is_spent-clause-driven
returns-then-is_spent-clause-driven g c = λ wanted before driven.
    left_over wanted (wanted_of c.args.command.now c.args.request.now) before (g.P.Starter.seen c.args.starter.now)
    (driver_seen g.P.Writer.Sink.seen g.P.Reader.Source.seen c.in_ok-driver.driver)
    (c.in_ok-driver.ensures.driven wanted before _ driven) (sym c.is_spent.ensures.room ∙ c.if-is_spent.true)

pub returns-in-Some-clause-driven : goal.returns-in-Some-clause-driven
returns-in-Some-clause-driven g c = λ wanted before driven.
    let ws = g.P.Writer.Sink.seen in
    let rs = g.P.Reader.Source.seen in
    let kept = c.in_ok-driver.driver in
    let after = g.P.Starter.seen c.args.starter.now in
    by_one c.ask_running.result _ _
    (λ next asked. asked_again wanted (wanted_of c.args.command.now c.args.request.now) before after (done_seen ws rs kept.done None) (driver_seen ws rs next.driver)
    (running_seen ws rs c.in-Some.link) next.outcome c.frames_go_on.ensures.rest
    (subst (λ r. IsDriven wanted before (done_seen ws rs kept.done (option_map (running_seen ws rs) r)) after) c.in-Some.is
    (c.in_ok-driver.ensures.driven wanted before after driven))
    (subst (λ r. nat_le kept.done.room (running_bytes (option_map (running_seen ws rs) r)) ≡ false) c.in-Some.is (sym c.is_spent.ensures.room ∙ c.if-is_spent.false))
    (subst (λ r. RunsFor c.bytes.result.now (option_map (running_seen ws rs) r)) c.in-Some.is c.in_ok-driver.ensures.of_module ∙ c.bytes.ensures)
    asked)
    c.ask_running.ensures.asked

pub returns-in-None-clause-driven : goal.returns-in-None-clause-driven
returns-in-None-clause-driven g c = λ wanted before driven.
    let ws = g.P.Writer.Sink.seen in
    let rs = g.P.Reader.Source.seen in
    let kept = c.in_ok-driver.driver in
    let after = g.P.Starter.seen c.args.starter.now in
    c.ask_started.ensures.driven wanted before
    (some_room kept.done.room (subst (λ r. nat_le kept.done.room (running_bytes (option_map (running_seen ws rs) r)) ≡ false) c.in-None.is (sym c.is_spent.ensures.room ∙ c.if-is_spent.false)))
    (subst (λ r. IsDriven wanted before (done_seen ws rs kept.done (option_map (running_seen ws rs) r)) after) c.in-None.is
    (c.in_ok-driver.ensures.driven wanted before after driven))

pub returns-then-is_spent-clause-table : goal.returns-then-is_spent-clause-table
returns-then-is_spent-clause-table g c = λ table after has none put.
    left_table table after (driver_seen g.P.Writer.Sink.seen g.P.Reader.Source.seen c.in_ok-driver.driver) c.args.request.now.key
    (c.in_ok-driver.ensures.table table has) put

pub returns-in-Some-clause-table : goal.returns-in-Some-clause-table
returns-in-Some-clause-table g c = λ table after has none.
    let ws = g.P.Writer.Sink.seen in
    let rs = g.P.Reader.Source.seen in
    let kept = c.in_ok-driver.driver in
    by_one c.ask_running.result _ _
    (λ next asked put. asked_again_table table after (done_seen ws rs kept.done None) (driver_seen ws rs next.driver)
    (running_seen ws rs c.in-Some.link) c.args.request.now.key (bytes_for false c.args.request.now) next.outcome
    c.one_reading.ensures.some c.one_reading.ensures.one c.frames_go_on.ensures.rest
    (subst (λ r. HasTable table (done_seen ws rs kept.done (option_map (running_seen ws rs) r))) c.in-Some.is (c.in_ok-driver.ensures.table table has))
    (subst (λ r. nat_le kept.done.room (running_bytes (option_map (running_seen ws rs) r)) ≡ false) c.in-Some.is (sym c.is_spent.ensures.room ∙ c.if-is_spent.false))
    asked none put)
    c.ask_running.ensures.asked

pub returns-in-None-clause-table : goal.returns-in-None-clause-table
returns-in-None-clause-table g c = λ table after has none.
    let ws = g.P.Writer.Sink.seen in
    let rs = g.P.Reader.Source.seen in
    let kept = c.in_ok-driver.driver in
    c.ask_started.ensures.table table after
    (some_room kept.done.room (subst (λ r. nat_le kept.done.room (running_bytes (option_map (running_seen ws rs) r)) ≡ false) c.in-None.is (sym c.is_spent.ensures.room ∙ c.if-is_spent.false)))
    (subst (λ r. HasTable table (done_seen ws rs kept.done (option_map (running_seen ws rs) r))) c.in-None.is (c.in_ok-driver.ensures.table table has))
    none

pub returns-then-is_spent-clause-spent : goal.returns-then-is_spent-clause-spent
returns-then-is_spent-clause-spent g c = λ table has none.
    filled table (driver_seen g.P.Writer.Sink.seen g.P.Reader.Source.seen c.in_ok-driver.driver) (c.in_ok-driver.ensures.table table has)
    (sym c.is_spent.ensures.room ∙ c.if-is_spent.true)

pub returns-in-Some-clause-spent : goal.returns-in-Some-clause-spent
returns-in-Some-clause-spent g c = λ table has.
    by_one c.ask_running.result _ _ (λ next asked none. asked_spent _ _ _ _ _ _ _ asked none) c.ask_running.ensures.asked

runs_none : (running kept : Option RunningSeen) (link : RunningSeen) → running ≡ Some link → kept ≡ running → kept ≡ None → ⊥
runs_none running kept link is same none =
    let both : Some link ≡ None = sym is ∙ sym same ∙ none in
    absurd (cc)

pub returns-in-None-clause-again : goal.returns-in-None-clause-again
returns-in-None-clause-again g c = λ link runs of_module.
    absurd (runs_none _ _ link runs
    (ap (λ (d : DriverSeen). d.running) (c.in_ok-driver.ensures.keeps link runs (of_module ∙ sym c.bytes.ensures)))
    (ap (option_map (running_seen g.P.Writer.Sink.seen g.P.Reader.Source.seen)) c.in-None.is))

pub returns-then-is_spent-clause-kept : goal.returns-then-is_spent-clause-kept
returns-then-is_spent-clause-kept g c = λ table has not_in.
    keeps_links c.args.request.now.key (driver_seen g.P.Writer.Sink.seen g.P.Reader.Source.seen c.in_ok-driver.driver)
    (λ is_in. not_in (c.in_ok-driver.ensures.keys _ is_in))

pub returns-in-Some-clause-kept : goal.returns-in-Some-clause-kept
returns-in-Some-clause-kept g c = λ table has not_in.
    let ws = g.P.Writer.Sink.seen in
    let rs = g.P.Reader.Source.seen in
    let kept = c.in_ok-driver.driver in
    let key = c.args.request.now.key in
    by_one c.ask_running.result _ _
    (λ next asked. asked_again_keeps table (done_seen ws rs kept.done None) (driver_seen ws rs next.driver) (running_seen ws rs c.in-Some.link) key
    (bytes_for false c.args.request.now) next.outcome c.one_reading.ensures.some c.one_reading.ensures.one c.frames_go_on.ensures.rest
    (subst (λ r. HasTable table (done_seen ws rs kept.done (option_map (running_seen ws rs) r))) c.in-Some.is (c.in_ok-driver.ensures.table table has))
    (λ is_in. not_in (c.in_ok-driver.ensures.keys key
    (subst (λ r. Contains (driver_keys (done_seen ws rs kept.done (option_map (running_seen ws rs) r))) key) (sym c.in-Some.is) is_in)))
    asked)
    c.ask_running.ensures.asked

pub returns-in-None-clause-kept : goal.returns-in-None-clause-kept
returns-in-None-clause-kept g c = λ table has not_in.
    let ws = g.P.Writer.Sink.seen in
    let rs = g.P.Reader.Source.seen in
    let kept = c.in_ok-driver.driver in
    let key = c.args.request.now.key in
    c.ask_started.ensures.kept
    (λ is_in. not_in (c.in_ok-driver.ensures.keys key
    (subst (λ r. Contains (driver_keys (done_seen ws rs kept.done (option_map (running_seen ws rs) r))) key) (sym c.in-None.is) is_in)))
