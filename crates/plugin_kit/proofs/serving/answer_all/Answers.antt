use Rattle.std.proofs.Common.{List, ℕ, subst, arith}
use Rattle.std.proofs.lemmas.Result.{err_from_is_err_and}
use Rattle.plugin_kit.specs.Answering.{IsAnswered, StopsAt}
use Rattle.plugin_kit.proofs.Replying.{answered_none}
use Rattle.plugin_kit.proofs.Payloads.{one_more_answered, stops_at_one}
use Rattle.plugin_kit.proofs.serving.answer_all.Goals as goal

pub payloads-init : goal.payloads-init
payloads-init g c = record { number = omega arith; answered = answered_none _ _ }

pub returns-in_err-answer_payload-clause-stopped : goal.returns-in_err-answer_payload-clause-stopped
returns-in_err-answer_payload-clause-stopped g c =
    let p = err_from_is_err_and c.from_residual.result c.from_residual.ensures.1 in
    rw (p.1, p.2) (stops_at_one (g.A.Answers.given c.args.answers.now) c.args.payloads.now c.payloads.payload-index c.args.number c.payloads.next c.payload-item.result
    (g.K.Sink.seen c.args.sink.now) (g.K.Sink.seen c.payloads.sink) (g.K.Sink.seen c.answer_payload.new.sink) c.in_err-answer_payload.field-0.0
    c.payloads-test.true c.payload-item.is c.payloads.invariant.number c.payloads.invariant.answered
    (subst (λ (payload : List ℕ). StopsAt (g.A.Answers.given c.args.answers.now) payload c.payloads.next (g.K.Sink.seen c.payloads.sink) (g.K.Sink.seen c.answer_payload.new.sink) c.in_err-answer_payload.field-0.0)
    c.deref.ensures.value c.in_err-answer_payload.ensures.stopped))

pub payloads-preserved : goal.payloads-preserved
payloads-preserved g c = record {
  number = omega (arith, c.payloads.invariant.number);
  answered = one_more_answered (g.A.Answers.given c.args.answers.now) c.args.payloads.now c.payloads.payload-index c.payload-item.result
      (g.K.Sink.seen c.args.sink.now) (g.K.Sink.seen c.payloads.sink) (g.K.Sink.seen c.answer_payload.new.sink)
      c.payloads-test.true c.payload-item.is c.payloads.invariant.answered
      (subst (λ (payload : List ℕ). IsAnswered (g.A.Answers.given c.args.answers.now) payload (g.K.Sink.seen c.payloads.sink) (g.K.Sink.seen c.answer_payload.new.sink))
      c.deref.ensures.value c.in_ok-answer_payload.ensures.answered);
}
