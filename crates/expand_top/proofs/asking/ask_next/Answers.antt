use Rattle.std.proofs.Common.{◌≡◌, arith, false, true}
use Rattle.std.proofs.lemmas.Bool.Decides.{nat_tests}
use Rattle.expansion_model.specs.Table.{look}
use Rattle.link_driver.specs.Driven.{driver_seen}
use Rattle.expand_top.proofs.Ways.{one_asked}
use Rattle.expand_top.proofs.asking.ask_next.Goals as goal

pub returns-clause-asked : goal.returns-clause-asked
returns-clause-asked g c = λ has.
    let driver = driver_seen g.P.Writer.Sink.seen g.P.Reader.Source.seen c.args.way.driver in
    one_asked c.args.request.now driver (driver_seen g.P.Writer.Sink.seen g.P.Reader.Source.seen c.in_ok-next.next.driver) (look c.in_ok-next.next.table) (c.in_ok-next.ensures.tells has)
    (λ spent. absurd (grind (arith, nat_tests, c.if-is_spent.ensures.room, spent, has.room))) (c.in_ok-next.ensures.decided has)

pub returns-clause-under_way : goal.returns-clause-under_way
returns-clause-under_way g c = λ macros source before way among.
    c.in_ok-next.ensures.under_way macros source before way
    (λ spent. let no_ : false ≡ true = (c.if-is_spent.ensures.driven way.wanted before (g.P.Starter.seen c.args.starter.now) way.driven).1 spent in absurd (cc)) among
