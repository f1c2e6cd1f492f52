use Rattle.std.proofs.Common.{◌≡◌, ◌<◌, ◌++◌, ◌-◌, ◌∷◌, [], length, ap, arith, sym, refl, subst, map, ◌∙◌, None}
use Rattle.std.specs.List.{Contains}
use Rattle.std.proofs.lemmas.List.{map-append}
use Rattle.link_driver.specs.Driven.{DriverSeen, bytes_of, done_seen, IsDriven}
use Rattle.link_driver.specs.declared.link.TheConstants.{MOST_BYTES}
use Rattle.link_driver.specs.Links.{LinkSeen, link_seen, running_seen}
use Rattle.link_driver.proofs.Turns.{retired, same_seen, spent_retired}
use Rattle.link_driver.proofs.Written.{by_three}
use Rattle.link_driver.proofs.retiring.with_retired.Goals as goal
use Rattle.link_driver.specs.Told.{HasTable, driver_keys}
use Rattle.link_driver.proofs.Tables.{retired_table, retired_keys}

pub returns-clause-driven : goal.returns-clause-driven
returns-clause-driven g c = λ wanted before after driven.
    let seen = link_seen g.W.Sink.seen g.R.Source.seen in
    let done = done_seen g.W.Sink.seen g.R.Source.seen c.args.done None in
    by_three c.with_closed.result _ _ _ _
    (λ next closed unstarted room. subst (λ (d : DriverSeen). IsDriven wanted before d after)
    (sym (same_seen _ _ (ap (map seen) closed ∙ map-append seen _ _) unstarted room refl))
    (retired wanted before after done (running_seen g.W.Sink.seen g.R.Source.seen c.args.link) (seen c.in_ok-closed.closed) c.in_ok-closed.ensures driven))
    c.with_closed.ensures.closed c.with_closed.ensures.unstarted c.with_closed.ensures.room

pub returns-clause-table : goal.returns-clause-table
returns-clause-table g c = λ table has.
    let seen = link_seen g.W.Sink.seen g.R.Source.seen in
    let done = done_seen g.W.Sink.seen g.R.Source.seen c.args.done None in
    by_three c.with_closed.result _ _ _ _
    (λ next closed unstarted room. subst (λ (d : DriverSeen). HasTable table d)
    (sym (same_seen _ _ (ap (map seen) closed ∙ map-append seen _ _) unstarted room refl))
    (retired_table table done (running_seen g.W.Sink.seen g.R.Source.seen c.args.link) (seen c.in_ok-closed.closed) c.one_reading.ensures.some
    c.one_reading.ensures.one c.frames_go_on.ensures.rest c.in_ok-closed.ensures has))
    c.with_closed.ensures.closed c.with_closed.ensures.unstarted c.with_closed.ensures.room

pub returns-clause-spent : goal.returns-clause-spent
returns-clause-spent g c = λ spent.
    let seen = link_seen g.W.Sink.seen g.R.Source.seen in
    let done = done_seen g.W.Sink.seen g.R.Source.seen c.args.done None in
    by_three c.with_closed.result _ _ _ _
    (λ next closed unstarted room.
    let now : bytes_of (map seen next.closed.items) ≡ bytes_of (map seen c.args.done.closed.items ++ seen c.in_ok-closed.closed ∷ []) = ap bytes_of (ap (map seen) closed ∙ map-append seen _ _) in
    let many : MOST_BYTES < bytes_of (map seen c.args.done.closed.items ++ seen c.in_ok-closed.closed ∷ []) =
    spent_retired done (running_seen g.W.Sink.seen g.R.Source.seen c.args.link) (seen c.in_ok-closed.closed) c.in_ok-closed.ensures spent in
    omega (arith, now, many))
    c.with_closed.ensures.closed c.with_closed.ensures.unstarted c.with_closed.ensures.room

pub returns-clause-keys : goal.returns-clause-keys
returns-clause-keys g c = λ key.
    let seen = link_seen g.W.Sink.seen g.R.Source.seen in
    let done = done_seen g.W.Sink.seen g.R.Source.seen c.args.done None in
    by_three c.with_closed.result _ _ _ _
    (λ next closed unstarted room is_in.
    let one : LinkSeen = seen c.in_ok-closed.closed in
    let after : DriverSeen = record done { links = done.links ++ one ∷ []; room = done.room - length one.got; running = None } in
    retired_keys done (running_seen g.W.Sink.seen g.R.Source.seen c.args.link) one c.in_ok-closed.ensures key
    (subst (λ (d : DriverSeen). Contains (driver_keys d) key)
    (same_seen after (done_seen g.W.Sink.seen g.R.Source.seen next None)
    (ap (map seen) closed ∙ map-append seen c.args.done.closed.items (c.in_ok-closed.closed ∷ [])) unstarted room refl) is_in))
    c.with_closed.ensures.closed c.with_closed.ensures.unstarted c.with_closed.ensures.room
