use Rattle.std.proofs.Common.{ap, refl, map, ◌∙◌}
use Rattle.std.proofs.lemmas.List.{map-append}
use Rattle.link_driver.specs.Asking.{goes_on, ends}
use Rattle.link_driver.specs.Links.{link_seen, running_seen}
use Rattle.link_driver.proofs.Turns.{same_seen, as_answered, as_ended}
use Rattle.link_driver.proofs.starting.ask_running.Goals as goal

pub returns-in-Ready-clause-asked : goal.returns-in-Ready-clause-asked
returns-in-Ready-clause-asked g c =
    goes_on (running_seen g.W.Sink.seen g.R.Source.seen c.in-Ready.link) _
    (as_answered _ _ _ _ _ _ _ _ c.in_ok-key.ensures.cases (c.deref.ensures.value ∙ c.in_ok-sent.ensures) (rw c.in-Ready.is at c.in_ok-link.ensures)) refl refl

pub returns-clause-asked : goal.returns-clause-asked
returns-clause-asked g c =
    let seen = link_seen g.W.Sink.seen g.R.Source.seen in
    ends (seen c.in-Retired.link)
    (as_ended _ _ _ _ _ _ _ c.in_ok-key.ensures.cases (c.deref.ensures.value ∙ c.in_ok-sent.ensures) (rw c.in-Retired.is at c.in_ok-link.ensures)) c.in_ok-outcome-in-Retired.ensures
    (same_seen _ _ (ap (map seen) c.in_ok-done-in-Retired.ensures.closed ∙ map-append seen _ _) c.in_ok-done-in-Retired.ensures.unstarted c.in_ok-done-in-Retired.ensures.room refl)
