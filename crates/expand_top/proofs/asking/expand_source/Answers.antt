use Rattle.std.proofs.Common.{◌≡◌, refl, subst, sym, arith, false, true, List, ◌∷◌}
use Rattle.std.specs.List.{All, Contains}
use Rattle.std.proofs.lemmas.List.Elements.{All-head}
use Rattle.swift_base.specs.declared.plugins.Plugin.{Plugin}
use Rattle.plugin_messages.specs.Writable.{IsRequestWritable}
use Rattle.plugin_messages.specs.declared.request.Request.{Request}
use Rattle.expansion_model.specs.Buffers.{buffer_seen}
use Rattle.expansion_model.specs.Steps.{AreMissing, IsStep, step_of, step_seen}
use Rattle.expansion_model.specs.Table.{look}
use Rattle.link_driver.specs.Driven.{IsSpent, driver_seen}
use Rattle.expand_top.specs.Asking.{IsStartable}
use Rattle.expand_top.specs.UnderWay.{IsDecided, IsUnderWay, asked_with}
use Rattle.expand_top.proofs.Counts.{further, has_room, no_round}
use Rattle.expand_top.proofs.Rounds.{done_other, few_asked, first_asked, first_missing, first_writable, others_asked, others_writable}
use Rattle.expand_top.proofs.asking.expand_source.Goals as goal

pub returns-in-Done : goal.returns-in-Done
returns-in-Done g c =
    let macros = c.args.macros.now in
    let plugins = c.args.plugins.now in
    let source = buffer_seen c.args.source.now in
    let table = look c.rounds.way.table in
    c.finished.ensures macros plugins source (g.P.Starter.seen c.args.starter.now) _ c.rounds.invariant.under_way
    (subst (λ s. IsStep macros plugins table source (step_seen s)) c.in-Done.is c.in_ok-answer.ensures.answer)
    (λ bytes. absurd (done_other macros plugins table source c.in-Done.answer
    (subst (λ s. step_seen s ≡ step_of macros plugins table source) c.in-Done.is c.in_ok-answer.ensures.step) bytes))

pub returns-then-is_spent : goal.returns-then-is_spent
returns-then-is_spent g c =
    let macros = c.args.macros.now in
    let plugins = c.args.plugins.now in
    let source = buffer_seen c.args.source.now in
    let before = g.P.Starter.seen c.args.starter.now in
    let table = look c.rounds.way.table in
    let missing : AreMissing macros plugins table source (c.in-Missing.first ∷ c.in-Missing.others.items) =
    subst (λ s. IsStep macros plugins table source (step_seen s)) c.in-Missing.is c.in_ok-answer.ensures.answer in
    c.finished-then-is_spent.ensures macros plugins source before _ c.rounds.invariant.under_way (sym missing.answers)
    (λ bytes. (c.if-is_spent.ensures.driven c.rounds.invariant.under_way.wanted before (g.P.Starter.seen c.rounds.starter) c.rounds.invariant.under_way.driven).0 refl)

pub ask_round-requires-clause-commands : goal.ask_round-requires-clause-commands
ask_round-requires-clause-commands g c κs within = subst (λ (plugins : List Plugin). All IsStartable plugins) (sym c.list.ensures) c.requires.commands

pub ask_round-requires-clause-first : goal.ask_round-requires-clause-first
ask_round-requires-clause-first g c κs within =
    let macros = c.args.macros.now in
    let plugins = c.args.plugins.now in
    let source = buffer_seen c.args.source.now in
    let table = look c.rounds.way.table in
    let missing : AreMissing macros plugins table source (c.in-Missing.first ∷ c.in-Missing.others.items) =
    subst (λ s. IsStep macros plugins table source (step_seen s)) c.in-Missing.is c.in_ok-answer.ensures.answer in
    first_writable macros plugins table source c.in-Missing.first c.in-Missing.others.items missing (c.requests_are_writable.ensures macros plugins table source c.requires.sound c.requires.readable)

pub ask_round-requires-clause-others : goal.ask_round-requires-clause-others
ask_round-requires-clause-others g c κs within =
    let macros = c.args.macros.now in
    let plugins = c.args.plugins.now in
    let source = buffer_seen c.args.source.now in
    let table = look c.rounds.way.table in
    let missing : AreMissing macros plugins table source (c.in-Missing.first ∷ c.in-Missing.others.items) =
    subst (λ s. IsStep macros plugins table source (step_seen s)) c.in-Missing.is c.in_ok-answer.ensures.answer in
    subst (λ (requests : List Request). All IsRequestWritable requests) (sym c.deref.ensures.value)
    (others_writable macros plugins table source c.in-Missing.first c.in-Missing.others.items missing (c.requests_are_writable.ensures macros plugins table source c.requires.sound c.requires.readable))

pub rounds-init : goal.rounds-init
rounds-init g c = record {
  sound = c.started-way.ensures.sound;
  under_way = c.started-way.ensures.under_way c.args.macros.now c.args.plugins.now (buffer_seen c.args.source.now) (g.P.Starter.seen c.args.starter.now);
  few = omega arith;
  come = no_round (look c.started-way.result.table) (driver_seen g.P.Writer.Sink.seen g.P.Reader.Source.seen c.started-way.result.driver);
}

pub rounds-preserved : goal.rounds-preserved
rounds-preserved g c =
    let ws = g.P.Writer.Sink.seen in
    let rs = g.P.Reader.Source.seen in
    let macros = c.args.macros.now in
    let plugins = c.args.plugins.now in
    let source = buffer_seen c.args.source.now in
    let before = g.P.Starter.seen c.args.starter.now in
    let table = look c.rounds.way.table in
    let first = c.in-Missing.first in
    let others = c.in-Missing.others.items in
    let missing : AreMissing macros plugins table source (first ∷ others) =
    subst (λ s. IsStep macros plugins table source (step_seen s)) c.in-Missing.is c.in_ok-answer.ensures.answer in
    let way : IsUnderWay macros c.list.result.now source before (driver_seen ws rs c.rounds.way.driver) table (g.P.Starter.seen c.rounds.starter) =
    subst (λ (ps : List Plugin). IsUnderWay macros ps source before (driver_seen ws rs c.rounds.way.driver) table (g.P.Starter.seen c.rounds.starter)) (sym c.list.ensures) c.rounds.invariant.under_way in
    let asks_first : Contains (asked_with macros c.list.result.now source table) first =
    subst (λ (ps : List Plugin). Contains (asked_with macros ps source table) first) (sym c.list.ensures) (first_asked macros plugins table source first others missing) in
    let asks_others : All (Contains (asked_with macros c.list.result.now source table)) c.deref.result.now =
    subst (λ (ps : List Plugin). All (Contains (asked_with macros ps source table)) c.deref.result.now) (sym c.list.ensures)
    (subst (λ (requests : List Request). All (Contains (asked_with macros plugins source table)) requests) (sym c.deref.ensures.value) (others_asked macros plugins table source first others missing)) in
    let goes_on : IsSpent (driver_seen ws rs c.rounds.way.driver) → ⊥ =
    λ spent. let no_ : false ≡ true = (c.if-is_spent.ensures.driven c.rounds.invariant.under_way.wanted before (g.P.Starter.seen c.rounds.starter) c.rounds.invariant.under_way.driven).1 spent in absurd (cc) in
    let wider = look c.in_ok-way-in-Missing.way.table in
    let next = driver_seen ws rs c.in_ok-way-in-Missing.way.driver in
    let asked = c.in_ok-way-in-Missing.ensures.asked way.tells in record {
      sound = c.in_ok-way-in-Missing.ensures.sound;
      under_way =
          subst (λ (ps : List Plugin). IsUnderWay macros ps source before next wider (g.P.Starter.seen c.ask_round.new.starter)) c.list.ensures
          (c.in_ok-way-in-Missing.ensures.under_way macros source before way asks_first asks_others);
      few =
          omega (
            arith,
            few_asked macros plugins table source (first ∷ others) missing,
            has_room macros plugins source before (driver_seen ws rs c.rounds.way.driver) table (g.P.Starter.seen c.rounds.starter) c.rounds.invariant.under_way goes_on c.rounds.counter c.rounds.invariant.come first
                (first_asked macros plugins table source first others missing) (first_missing macros plugins table source first others missing),
          );
      come =
          further c.rounds.counter table wider (driver_seen ws rs c.rounds.way.driver) next first c.rounds.invariant.come goes_on
          (first_missing macros plugins table source first others missing) c.in_ok-way-in-Missing.ensures.wider (All-head (IsDecided wider next) first c.deref.result.now asked.each);
    }

-- there are no more rounds than requests that may be asked
pub unreachable-requires : goal.unreachable-requires
unreachable-requires g c = omega (arith, c.rounds.invariant.few, c.rounds-test.false)
