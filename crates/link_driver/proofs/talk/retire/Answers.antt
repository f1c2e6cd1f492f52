use Rattle.std.proofs.Common.{ap, sym, refl, subst}
use Rattle.link_driver.specs.Asking.{IsRetired}
use Rattle.link_driver.specs.Links.{link_seen, running_seen}
use Rattle.link_driver.proofs.talk.retire.Goals as goal

pub returns : goal.returns
returns g c =
    subst (IsRetired (running_seen g.W.Sink.seen g.R.Source.seen c.args.link) c.args.write_failed)
    (sym (ap (link_seen g.W.Sink.seen g.R.Source.seen) c.closed.ensures))
    (record {
      module_name = refl;
      asked = refl;
      failed = refl;
      written = λ earlier last given. c.close.ensures earlier last _ given;
      stopped = c.in_ok-stop.ensures.cause;
      gains = c.in_ok-stop.ensures.gains;
    })
