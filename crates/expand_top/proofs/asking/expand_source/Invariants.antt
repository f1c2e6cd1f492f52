use Rattle.std.specs.Prelude.{◌≤◌}
use Rattle.expansion_model.specs.Buffers.{buffer_seen}
use Rattle.expansion_model.specs.Table.{look}
use Rattle.expansion_model.specs.declared.answer.TheConstants.{MOST_REQUESTS}
use Rattle.link_driver.specs.Driven.{IsSound, driver_seen}
use Rattle.expand_top.specs.UnderWay.{IsUnderWay}
use Rattle.expand_top.proofs.Counts.{HasCome}
use Rattle.expand_top.proofs.asking.expand_source.Given as goal

abbrev pub invariant-rounds : goal.invariant-rounds
invariant-rounds g l = record {
  sound : IsSound (driver_seen g.P.Writer.Sink.seen g.P.Reader.Source.seen l.way.driver);
  under_way : IsUnderWay l.macros l.plugins (buffer_seen l.source) (g.P.Starter.seen l.initial.starter) (driver_seen g.P.Writer.Sink.seen g.P.Reader.Source.seen l.way.driver) (look l.way.table) (g.P.Starter.seen l.starter);
  few : l.counter ≤ MOST_REQUESTS;
  come : HasCome l.counter (look l.way.table) (driver_seen g.P.Writer.Sink.seen g.P.Reader.Source.seen l.way.driver);
}
