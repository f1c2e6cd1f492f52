use Rattle.std.proofs.Common.{ap, sym, refl, subst, false}
use Rattle.link_driver.specs.Asking.{HasEnded}
use Rattle.link_driver.specs.Links.{link_seen, running_seen}
use Rattle.link_driver.proofs.Kept.{ended_of}
use Rattle.link_driver.proofs.talk.ask_process.Goals as goal

pub returns-in-Stopped : goal.returns-in-Stopped
returns-in-Stopped g c =
    subst (HasEnded (running_seen g.W.Sink.seen g.R.Source.seen c.args.link) c.args.key c.args.sent.now c.args.is_first)
    (sym (ap (link_seen g.W.Sink.seen g.R.Source.seen) c.closed.ensures))
    (record {
      module_name = refl;
      asked = c.in_ok-push.ensures.items;
      written = λ bytes holds. c.close.ensures bytes c.args.sent.now _ (c.if-write.ensures bytes holds);
      stopped = rw c.in-Stopped.is at c.in_ok-outcome.ensures.cause;
      gains = c.in_ok-outcome.ensures.gains;
      unanswered = λ _. rw c.in-Stopped.is at c.in_ok-outcome.ensures.stopped;
    })

pub returns-in_ok-retire-in-Other : goal.returns-in_ok-retire-in-Other
returns-in_ok-retire-in-Other g c =
    ended_of (running_seen g.W.Sink.seen g.R.Source.seen c.args.link) _ _ c.args.key c.args.sent.now c.args.is_first false refl c.in_ok-push.ensures.items
    c.in_ok-outcome.ensures.gains (λ bytes holds. c.if-write.ensures bytes holds) (λ _. c.in_ok-outcome.ensures.other c.in-Other.is) c.in_ok-retire-in-Other.ensures
