use Rattle.std.proofs.Common.{refl, ap, length, arith}
use Rattle.std.proofs.lemmas.Result.{err_from_is_err_and}
use Rattle.plugin_frames.specs.Cutting.{payloads_of}
use Rattle.plugin_kit.proofs.Counts.{count_of}
use Rattle.plugin_kit.proofs.Payloads.{same_answered, same_stops}
use Rattle.plugin_kit.proofs.Reaching.{reached_more, stops_among, stops_at_length, stops_unread}
use Rattle.plugin_kit.proofs.serving.answer_piece.Goals as goal

pub returns-in_default-clause-stopped : goal.returns-in_default-clause-stopped
returns-in_default-clause-stopped g c = λ first before after start reached reads.
    stops_unread (g.A.Answers.given c.args.answers.now) first before after start (g.K.Sink.seen c.args.sink.now) c.args.frames.now c.args.progress c.args.piece.now
    reached reads c.requires.within c.requires.few

pub returns-in_err-requests-clause-stopped : goal.returns-in_err-requests-clause-stopped
returns-in_err-requests-clause-stopped g c =
    let p = err_from_is_err_and c.from_residual.result c.from_residual.ensures.1 in
    rw (p.1, p.2) (λ first before after start reached reads.
    stops_among (g.A.Answers.given c.args.answers.now) first before after start (g.K.Sink.seen c.args.sink.now) (g.K.Sink.seen c.answer_all.new.sink)
    c.args.frames.now c.feed.new.frames c.args.progress c.args.piece.now (payloads_of c.in-Ok.fed.payloads.items) c.in-Ok.fed.too_long c.in_err-requests.field-0.0
    reached reads c.in-Ok.ensures.fed
    (same_stops (g.A.Answers.given c.args.answers.now) c.deref.result.now c.in-Ok.fed.payloads.items c.args.progress.requests (g.K.Sink.seen c.args.sink.now) (g.K.Sink.seen c.answer_all.new.sink)
    c.in_err-requests.field-0.0 c.deref.ensures.value c.in_err-requests.ensures.stopped)
    c.requires.within c.requires.few)

pub returns-in-Some-clause-stopped : goal.returns-in-Some-clause-stopped
returns-in-Some-clause-stopped g c = λ first before after start reached reads.
    stops_at_length (g.A.Answers.given c.args.answers.now) first before after start (g.K.Sink.seen c.args.sink.now) (g.K.Sink.seen c.answer_all.new.sink)
    c.args.frames.now c.feed.new.frames c.args.progress c.args.piece.now (payloads_of c.in-Ok.fed.payloads.items) c.in-Ok.fed.too_long c.in-Some.len c.in-Some.is
    reached reads c.in-Ok.ensures.fed
    (same_answered (g.A.Answers.given c.args.answers.now) c.deref.result.now c.in-Ok.fed.payloads.items (g.K.Sink.seen c.args.sink.now) (g.K.Sink.seen c.answer_all.new.sink)
    c.deref.ensures.value c.in_ok-requests.ensures.answered)
    c.requires.within c.requires.few

pub returns-clause-reached : goal.returns-clause-reached
returns-clause-reached g c = λ first before after start reached reads.
    reached_more (g.A.Answers.given c.args.answers.now) first before after start (g.K.Sink.seen c.args.sink.now) (g.K.Sink.seen c.answer_all.new.sink)
    c.args.frames.now c.feed.new.frames c.args.progress _ c.args.piece.now (payloads_of c.in-Ok.fed.payloads.items) c.in-Ok.fed.too_long c.in-None.is
    reached reads c.in-Ok.ensures.fed
    (same_answered (g.A.Answers.given c.args.answers.now) c.deref.result.now c.in-Ok.fed.payloads.items (g.K.Sink.seen c.args.sink.now) (g.K.Sink.seen c.answer_all.new.sink)
    c.deref.ensures.value c.in_ok-requests.ensures.answered)
    c.requires.within c.requires.few refl
    (omega (arith, c.in_ok-requests.ensures.count, ap length c.deref.ensures.value, count_of c.in-Ok.fed.payloads.items))
