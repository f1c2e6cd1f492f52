use Rattle.std.proofs.Common.{[], ◌∷◌}
use Rattle.std.specs.List.{Contains}
use Rattle.std.proofs.lemmas.List.Elements.{All-weaker}
use Rattle.expansion_model.specs.Table.{look}
use Rattle.expansion_model.proofs.AskedGrow.{asked_grow}
use Rattle.link_driver.specs.Driven.{driver_seen}
use Rattle.expand_top.specs.UnderWay.{asked_with}
use Rattle.expand_top.proofs.Ways.{both_asked}
use Rattle.expand_top.proofs.asking.ask_round.Goals as goal

pub returns-clause-under_way : goal.returns-clause-under_way
returns-clause-under_way g c = λ macros source before way first others.
    let plugins = c.args.plugins.now in
    let table = look c.args.way.table in
    let wider = look c.in_ok-next.next.table in
    c.in_ok-last.ensures.under_way macros source before (c.in_ok-next.ensures.under_way macros source before way first)
    (All-weaker (Contains (asked_with macros plugins source table)) (Contains (asked_with macros plugins source wider))
    (λ request has. asked_grow macros plugins table wider source request c.in_ok-next.ensures.wider has) c.args.others.now others)

pub returns-clause-wider : goal.returns-clause-wider
returns-clause-wider g c = λ key outcome is. c.in_ok-last.ensures.wider key outcome (c.in_ok-next.ensures.wider key outcome is)

pub returns-clause-asked : goal.returns-clause-asked
returns-clause-asked g c = λ has.
    let ws = g.P.Writer.Sink.seen in
    let rs = g.P.Reader.Source.seen in
    let first = c.in_ok-next.ensures.asked has in
    both_asked (c.args.first.now ∷ []) c.args.others.now (driver_seen ws rs c.args.way.driver) (driver_seen ws rs c.in_ok-next.next.driver) (driver_seen ws rs c.in_ok-last.last.driver) (look c.in_ok-next.next.table) (look c.in_ok-last.last.table)
    c.in_ok-last.ensures.wider first (c.in_ok-last.ensures.asked first.tells)
