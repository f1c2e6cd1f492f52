use Rattle.std.proofs.Common.{◌≡◌, ◌∙◌, ap, subst, sym, [], ◌∷◌, ◌++◌}
use Rattle.expansion_model.specs.Table.{look}
use Rattle.link_driver.specs.Driven.{IsDriven, IsSpent, driver_seen}
use Rattle.link_driver.specs.Requests.{Wanted, wanted_of}
use Rattle.link_driver.specs.Told.{HasTable}
use Rattle.expand_top.specs.Asking.{command_for, wanted_for}
use Rattle.expand_top.proofs.Ways.{none_put, one_further, put_within}
use Rattle.expand_top.proofs.asking.ask_one.Goals as goal

pub returns-clause-under_way : goal.returns-clause-under_way
returns-clause-under_way g c = λ macros source before way goes_on among.
    let ws = g.P.Writer.Sink.seen in
    let rs = g.P.Reader.Source.seen in
    let plugins = c.args.plugins.now in
    let request = c.args.request.now in
    let table = look c.args.way.table in
    let next = c.in_ok-next.next in
    let end = g.P.Starter.seen c.ask.new.starter in
    let wanted : wanted_of c.command_for-command.result.now request ≡ wanted_for plugins request =
    ap (λ command. wanted_of command request) (c.command_for-command.ensures ∙ ap (command_for plugins) c.bytes.ensures) in
    let driven : IsDriven (way.wanted ++ wanted_for plugins request ∷ []) before (driver_seen ws rs next.driver) end =
    subst (λ d. IsDriven (way.wanted ++ wanted_for plugins request ∷ []) before (driver_seen ws rs d) end) (sym c.in_ok-next.ensures.driver)
    (subst (λ (w : Wanted). IsDriven (way.wanted ++ w ∷ []) before (driver_seen ws rs c.in_ok-asked.asked.driver) end) wanted (c.in_ok-asked.ensures.driven way.wanted before way.driven)) in
    let tells : HasTable (look next.table) (driver_seen ws rs next.driver) =
    subst (λ d. HasTable (look next.table) (driver_seen ws rs d)) (sym c.in_ok-next.ensures.driver)
    (c.in_ok-asked.ensures.table table (look next.table) way.tells c.requires.missing c.in_ok-next.ensures.table) in
    one_further macros plugins source before (driver_seen ws rs c.args.way.driver) table (g.P.Starter.seen c.args.starter.now) way goes_on request (driver_seen ws rs next.driver) (look next.table) end
    among c.requires.missing (put_within table (look next.table) request.key c.in_ok-asked.asked.outcome c.requires.missing c.in_ok-next.ensures.table) driven tells

pub returns-clause-tells : goal.returns-clause-tells
returns-clause-tells g c = λ has.
    let next = c.in_ok-next.next in
    subst (λ d. HasTable (look next.table) (driver_seen g.P.Writer.Sink.seen g.P.Reader.Source.seen d)) (sym c.in_ok-next.ensures.driver)
    (c.in_ok-asked.ensures.table (look c.args.way.table) (look next.table) has c.requires.missing c.in_ok-next.ensures.table)

pub returns-clause-decided : goal.returns-clause-decided
returns-clause-decided g c = λ has missing.
    let table = look c.args.way.table in
    subst (λ d. IsSpent (driver_seen g.P.Writer.Sink.seen g.P.Reader.Source.seen d)) (sym c.in_ok-next.ensures.driver)
    (c.in_ok-asked.ensures.spent table has (none_put table (look c.in_ok-next.next.table) c.args.request.now.key c.in_ok-asked.asked.outcome c.in_ok-next.ensures.table missing))
