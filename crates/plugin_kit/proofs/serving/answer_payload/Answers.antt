use Rattle.plugin_kit.proofs.Payloads.{fails_within}
use Rattle.plugin_kit.proofs.serving.answer_payload.Goals as goal

pub returns-in_default-clause-stopped : goal.returns-in_default-clause-stopped
returns-in_default-clause-stopped g c =
    let front = c.in_default.ensures.front in
    fails_within (g.A.Answers.given c.args.answers.now) c.args.payload.now c.in_ok-frame.frame.items c.deref.result.now front.0 (g.K.Sink.seen c.args.sink.now) (g.K.Sink.seen c.write_all.new.sink)
    c.in_ok-frame.ensures.frame c.deref.ensures.value front.1 front.2 c.write_all.ensures.closing c.in_default.ensures.failed
