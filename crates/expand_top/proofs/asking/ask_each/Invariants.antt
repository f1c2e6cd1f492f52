use Rattle.std.specs.Prelude.{List, take}
use Rattle.std.specs.List.{All, Contains}
use Rattle.swift_base.specs.Outside.{StarterSeen}
use Rattle.macro_decls.specs.declared.table.MacroDecl.{MacroDecl}
use Rattle.expansion_model.specs.Buffers.{BufferSeen}
use Rattle.expansion_model.specs.Table.{IsWithin, look}
use Rattle.link_driver.specs.Driven.{IsSound, driver_seen}
use Rattle.link_driver.specs.Told.{HasTable}
use Rattle.expand_top.specs.UnderWay.{HasAsked, IsUnderWay, asked_with}
use Rattle.expand_top.proofs.asking.ask_each.Given as goal

abbrev pub invariant-requests : goal.invariant-requests
invariant-requests g l = record {
  sound : IsSound (driver_seen g.P.Writer.Sink.seen g.P.Reader.Source.seen l.way.driver);
  wider : IsWithin (look l.initial.way.table) (look l.way.table);
  asked : HasTable (look l.initial.way.table) (driver_seen g.P.Writer.Sink.seen g.P.Reader.Source.seen l.initial.way.driver)
      → HasAsked (take l.request-index l.requests) (driver_seen g.P.Writer.Sink.seen g.P.Reader.Source.seen l.initial.way.driver) (look l.way.table) (driver_seen g.P.Writer.Sink.seen g.P.Reader.Source.seen l.way.driver);
  under_way : (macros : List MacroDecl) (source : BufferSeen) (before : StarterSeen)
      → IsUnderWay macros l.plugins source before (driver_seen g.P.Writer.Sink.seen g.P.Reader.Source.seen l.initial.way.driver) (look l.initial.way.table) (g.P.Starter.seen l.initial.starter)
      → All (Contains (asked_with macros l.plugins source (look l.initial.way.table))) l.requests
      → IsUnderWay macros l.plugins source before (driver_seen g.P.Writer.Sink.seen g.P.Reader.Source.seen l.way.driver) (look l.way.table) (g.P.Starter.seen l.starter);
}
