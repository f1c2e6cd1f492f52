use Rattle.std.proofs.Common.{sym, ◌∙◌}
use Rattle.link_driver.proofs.Runs.{stops_have_causes, failed_starts_have_causes}
use Rattle.expand_top.proofs.Promises.{asked_once, starts_are_of, keeps_bytes, status_has_cause, none_some, links_served}
use Rattle.expand_top.proofs.driver.run.Goals as goal

pub returns-clause-output : goal.returns-clause-output
returns-clause-output g c = λ name macros plugins is. c.run_named.ensures.expanded name macros plugins (sym c.in-Some.ensures.some ∙ is)

pub returns-in_default-clause-output : goal.returns-in_default-clause-output
returns-in_default-clause-output g c = λ name macros plugins is. absurd (none_some _ (sym c.in_default.ensures.none ∙ is))

pub returns-clause-asked_once : goal.returns-clause-asked_once
returns-clause-asked_once g c = λ name macros plugins is ok.
    let done = c.run_named.ensures.expanded name macros plugins (sym c.in-Some.ensures.some ∙ is) ok in asked_once macros name plugins _ _ done.output done.expands

pub returns-in_default-clause-asked_once : goal.returns-in_default-clause-asked_once
returns-in_default-clause-asked_once g c = λ name macros plugins is. absurd (none_some _ (sym c.in_default.ensures.none ∙ is))

pub returns-clause-links_serve : goal.returns-clause-links_serve
returns-clause-links_serve g c = λ name macros plugins is ok.
    let done = c.run_named.ensures.expanded name macros plugins (sym c.in-Some.ensures.some ∙ is) ok in links_served c.only_last_keys_fail.ensures macros name plugins _ _ done.output done.expands

pub returns-in_default-clause-links_serve : goal.returns-in_default-clause-links_serve
returns-in_default-clause-links_serve g c = λ name macros plugins is. absurd (none_some _ (sym c.in_default.ensures.none ∙ is))

pub returns-clause-started : goal.returns-clause-started
returns-clause-started g c = λ name macros plugins is ok.
    let done = c.run_named.ensures.expanded name macros plugins (sym c.in-Some.ensures.some ∙ is) ok in starts_are_of macros name plugins _ _ done.output done.expands

pub returns-in_default-clause-started : goal.returns-in_default-clause-started
returns-in_default-clause-started g c = λ name macros plugins is. absurd (none_some _ (sym c.in_default.ensures.none ∙ is))

pub returns-clause-stops : goal.returns-clause-stops
returns-clause-stops g c = λ name macros plugins is ok.
    let done = c.run_named.ensures.expanded name macros plugins (sym c.in-Some.ensures.some ∙ is) ok in stops_have_causes _ _ _ _ _ done.expands.asks.ran

pub returns-in_default-clause-stops : goal.returns-in_default-clause-stops
returns-in_default-clause-stops g c = λ name macros plugins is. absurd (none_some _ (sym c.in_default.ensures.none ∙ is))

pub returns-clause-failed_starts : goal.returns-clause-failed_starts
returns-clause-failed_starts g c = λ name macros plugins is ok.
    let done = c.run_named.ensures.expanded name macros plugins (sym c.in-Some.ensures.some ∙ is) ok in failed_starts_have_causes _ _ _ _ _ done.expands.asks.ran

pub returns-in_default-clause-failed_starts : goal.returns-in_default-clause-failed_starts
returns-in_default-clause-failed_starts g c = λ name macros plugins is. absurd (none_some _ (sym c.in_default.ensures.none ∙ is))

pub returns-clause-source : goal.returns-clause-source
returns-clause-source g c = λ name macros plugins is. c.run_named.ensures.source name macros plugins (sym c.in-Some.ensures.some ∙ is)

pub returns-in_default-clause-source : goal.returns-in_default-clause-source
returns-in_default-clause-source g c = λ name macros plugins is. absurd (none_some _ (sym c.in_default.ensures.none ∙ is))

pub returns-clause-kept : goal.returns-clause-kept
returns-clause-kept g c = λ name macros plugins is ok.
    let done = c.run_named.ensures.expanded name macros plugins (sym c.in-Some.ensures.some ∙ is) ok in keeps_bytes c.edits_are_made.ensures macros name plugins _ _ done.output _ _ _ _ _ _ _ done.reads done.expands done.delivered

pub returns-in_default-clause-kept : goal.returns-in_default-clause-kept
returns-in_default-clause-kept g c = λ name macros plugins is. absurd (none_some _ (sym c.in_default.ensures.none ∙ is))

pub returns-clause-status : goal.returns-clause-status
returns-clause-status g c = λ name macros plugins is ok.
    let done = c.run_named.ensures.expanded name macros plugins (sym c.in-Some.ensures.some ∙ is) ok in status_has_cause macros name plugins _ _ done.output _ _ _ _ _ _ _ done.reads done.expands done.delivered

pub returns-in_default-clause-status : goal.returns-in_default-clause-status
returns-in_default-clause-status g c = λ name macros plugins is. absurd (none_some _ (sym c.in_default.ensures.none ∙ is))
