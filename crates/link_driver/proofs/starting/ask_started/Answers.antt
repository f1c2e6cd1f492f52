use Rattle.std.proofs.Common.{ap, sym, subst, refl, map, true, None, Err}
use Rattle.swift_base.specs.Outside.{IsFreshWriter, IsFreshReader, TakesLink}
use Rattle.link_driver.specs.Driven.{done_seen, driver_seen}
use Rattle.link_driver.specs.Links.{link_seen, running_seen}
use Rattle.link_driver.specs.Requests.{wanted_of}
use Rattle.link_driver.proofs.Turns.{asked_first, asked_in_vain}
use Rattle.link_driver.proofs.Written.{by_one}
use Rattle.link_driver.proofs.starting.ask_started.Goals as goal
use Rattle.link_driver.specs.Requests.{bytes_for}
use Rattle.link_driver.specs.Told.{HasTable}
use Rattle.link_driver.proofs.Turns.{same_seen}
use Rattle.link_driver.proofs.Kept.{keeps_links, asked_first_keeps}
use Rattle.link_driver.specs.Kept.{KeepsWhatReplies}
use Rattle.link_driver.proofs.Tables.{no_room, asked_spent, asked_first_table, vain_table}

pub returns-in_ok-link-in-Ok-clause-driven : goal.returns-in_ok-link-in-Ok-clause-driven
returns-in_ok-link-in-Ok-clause-driven g c = λ wanted before some driven.
    let ws = g.P.Writer.Sink.seen in
    let rs = g.P.Reader.Source.seen in
    let before_start = g.P.Starter.seen c.args.starter.now in
    let after_start = g.P.Starter.seen c.start.new.self in
    let made = c.in_ok-link-in-Ok.ensures in
    by_one c.ask_running.result _ _
    (λ next asked. asked_first wanted (wanted_of c.args.command.now c.args.request.now) before before_start after_start (done_seen ws rs c.args.done None)
    (driver_seen ws rs next.driver) (running_seen ws rs c.in_ok-link-in-Ok.link) next.outcome c.frames_are_read.ensures.none c.frames_go_on.ensures.rest refl some driven
    made.module_name made.asked made.got (subst (λ w. IsFreshWriter (ws w)) (sym made.writer) c.in-Ok.ensures.writer)
    (subst (λ r. IsFreshReader (rs r)) (sym made.reader) c.in-Ok.ensures.reader)
    (subst (λ r. TakesLink before_start.links after_start.links (rs r).left) (sym made.reader) c.in-Ok.ensures.link)
    c.in-Ok.ensures.started c.start.ensures.faults asked)
    c.ask_running.ensures.asked

pub returns-in_ok-done-in-Err-Failed-clause-driven : goal.returns-in_ok-done-in-Err-Failed-clause-driven
returns-in_ok-done-in-Err-Failed-clause-driven g c = λ wanted before some driven.
    let ws = g.P.Writer.Sink.seen in
    let rs = g.P.Reader.Source.seen in
    let failed = ap Err c.in-Err-Failed.field-0-is in
    asked_in_vain wanted (wanted_of c.args.command.now c.args.request.now) before (g.P.Starter.seen c.args.starter.now) (g.P.Starter.seen c.start.new.self)
    (done_seen ws rs c.args.done None) (done_seen ws rs c.in_ok-done-in-Err-Failed.done None)
    (record { key = c.in_ok-key-in-Err-Failed.key; before = c.faults-before.result; after = c.faults-after.result })
    refl some driven c.in_ok-key-in-Err-Failed.ensures.cases c.faults-before.ensures c.faults-after.ensures
    (c.in-Err-Failed.ensures.failed failed) c.start.ensures.faults c.in-Err-Failed.ensures.no_link (c.in-Err-Failed.ensures.not_started failed)
    (ap (map (link_seen ws rs)) c.in_ok-done-in-Err-Failed.ensures.closed) c.in_ok-done-in-Err-Failed.ensures.unstarted
    c.in_ok-done-in-Err-Failed.ensures.room refl

pub returns-in_ok-link-in-Ok-clause-table : goal.returns-in_ok-link-in-Ok-clause-table
returns-in_ok-link-in-Ok-clause-table g c = λ table after some has none.
    let ws = g.P.Writer.Sink.seen in
    let rs = g.P.Reader.Source.seen in
    let made = c.in_ok-link-in-Ok.ensures in
    by_one c.ask_running.result _ _
    (λ next asked put. asked_first_table table after (done_seen ws rs c.args.done None)
    (driver_seen ws rs next.driver) (running_seen ws rs c.in_ok-link-in-Ok.link) c.args.request.now.key (bytes_for true c.args.request.now) next.outcome
    c.one_reading.ensures.some c.one_reading.ensures.one c.frames_go_on.ensures.rest c.frames_are_read.ensures.none has (no_room c.args.done.room some)
    made.asked made.got asked none put)
    c.ask_running.ensures.asked

pub returns-in_ok-done-in-Err-Failed-clause-table : goal.returns-in_ok-done-in-Err-Failed-clause-table
returns-in_ok-done-in-Err-Failed-clause-table g c = λ table after some has none put.
    let ws = g.P.Writer.Sink.seen in
    let rs = g.P.Reader.Source.seen in
    subst (λ d. HasTable after d)
    (sym (same_seen _ _ (ap (map (link_seen ws rs)) c.in_ok-done-in-Err-Failed.ensures.closed) c.in_ok-done-in-Err-Failed.ensures.unstarted
    c.in_ok-done-in-Err-Failed.ensures.room refl))
    (vain_table table after (done_seen ws rs c.args.done None)
    (record { key = c.in_ok-key-in-Err-Failed.key; before = c.faults-before.result; after = c.faults-after.result })
    c.args.request.now.key has (no_room c.args.done.room some) c.in_ok-key-in-Err-Failed.ensures.cases none put)

pub returns-in_ok-link-in-Ok-clause-spent : goal.returns-in_ok-link-in-Ok-clause-spent
returns-in_ok-link-in-Ok-clause-spent g c =
    by_one c.ask_running.result _ _ (λ next asked none. asked_spent _ _ _ _ _ _ _ asked none) c.ask_running.ensures.asked

pub returns-in_ok-link-in-Ok-clause-kept : goal.returns-in_ok-link-in-Ok-clause-kept
returns-in_ok-link-in-Ok-clause-kept g c = λ not_in.
    let ws = g.P.Writer.Sink.seen in
    let rs = g.P.Reader.Source.seen in
    let made = c.in_ok-link-in-Ok.ensures in
    by_one c.ask_running.result _ _
    (λ next asked. asked_first_keeps (done_seen ws rs c.args.done None) (driver_seen ws rs next.driver) (running_seen ws rs c.in_ok-link-in-Ok.link)
    c.args.request.now.key (bytes_for true c.args.request.now) next.outcome made.asked made.got not_in asked)
    c.ask_running.ensures.asked

pub returns-in_ok-done-in-Err-Failed-clause-kept : goal.returns-in_ok-done-in-Err-Failed-clause-kept
returns-in_ok-done-in-Err-Failed-clause-kept g c = λ not_in.
    let ws = g.P.Writer.Sink.seen in
    let rs = g.P.Reader.Source.seen in
    subst (λ l. KeepsWhatReplies c.args.request.now.key l) (sym (ap (map (link_seen ws rs)) c.in_ok-done-in-Err-Failed.ensures.closed))
    (keeps_links c.args.request.now.key (done_seen ws rs c.args.done None) not_in)
