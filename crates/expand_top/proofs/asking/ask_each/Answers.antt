use Rattle.std.proofs.Common.{arith, sym, subst, List}
use Rattle.std.specs.List.{Contains}
use Rattle.std.proofs.lemmas.List.{take_all}
use Rattle.plugin_messages.specs.declared.request.Request.{Request}
use Rattle.expansion_model.specs.Table.{look}
use Rattle.expansion_model.proofs.AskedGrow.{asked_grow}
use Rattle.link_driver.specs.Driven.{driver_seen}
use Rattle.expand_top.specs.UnderWay.{HasAsked, asked_with}
use Rattle.expand_top.proofs.Ways.{asked_further, none_asked}
use Rattle.expand_top.proofs.asking.ask_each.Goals as goal

pub requests-init : goal.requests-init
requests-init g c = record {
  sound = c.requires.sound;
  wider = λ key outcome is. is;
  asked = λ has. none_asked (driver_seen g.P.Writer.Sink.seen g.P.Reader.Source.seen c.args.way.driver) (look c.args.way.table) has;
  under_way = λ macros source before way each. way;
}

pub requests-preserved : goal.requests-preserved
requests-preserved g c =
    let ws = g.P.Writer.Sink.seen in
    let rs = g.P.Reader.Source.seen in
    let table = look c.requests.way.table in record {
      sound = c.in_ok-way.ensures.sound;
      wider = λ key outcome is. c.in_ok-way.ensures.wider key outcome (c.requests.invariant.wider key outcome is);
      asked = λ has.
          let first = c.requests.invariant.asked has in
          asked_further c.args.requests.now c.requests.request-index c.request-item.result (driver_seen ws rs c.args.way.driver) (driver_seen ws rs c.requests.way.driver) (driver_seen ws rs c.in_ok-way.way.driver) table (look c.in_ok-way.way.table)
          c.requests-test.true c.request-item.is c.in_ok-way.ensures.wider first (c.in_ok-way.ensures.asked first.tells);
      under_way = λ macros source before way each.
          let asked = asked_with macros c.args.plugins.now source (look c.args.way.table) in
          c.in_ok-way.ensures.under_way macros source before (c.requests.invariant.under_way macros source before way each)
          (asked_grow macros c.args.plugins.now (look c.args.way.table) table source c.request-item.result c.requests.invariant.wider
          (subst (Contains asked) (sym c.request-item.is) (each c.requests.request-index c.request-item.result c.requests-test.true)));
    }

pub returns-clause-wider : goal.returns-clause-wider
returns-clause-wider g c = c.requests.invariant.wider

pub returns-clause-asked : goal.returns-clause-asked
returns-clause-asked g c = λ has.
    subst (λ (l : List Request). HasAsked l (driver_seen g.P.Writer.Sink.seen g.P.Reader.Source.seen c.args.way.driver) (look c.requests.way.table) (driver_seen g.P.Writer.Sink.seen g.P.Reader.Source.seen c.requests.way.driver))
    (take_all c.requests.request-index c.args.requests.now (omega (arith, c.requests-test.false))) (c.requests.invariant.asked has)

pub returns-clause-under_way : goal.returns-clause-under_way
returns-clause-under_way g c = c.requests.invariant.under_way
