use Rattle.link_driver.specs.Driven.{driver_seen, IsSound}
use Rattle.link_driver.proofs.tests.run.Given as goal

abbrev pub invariant-modules : goal.invariant-modules
invariant-modules g l = IsSound (driver_seen g.P.Writer.Sink.seen g.P.Reader.Source.seen l.driver)
