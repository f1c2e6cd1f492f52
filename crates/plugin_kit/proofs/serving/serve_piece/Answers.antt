use Rattle.std.proofs.lemmas.Result.{err_from_is_err_and, MatchResult-weaker}
use Rattle.plugin_kit.proofs.Reaching.{stops_reading}
use Rattle.plugin_kit.proofs.serving.serve_piece.Goals as goal

pub returns-in_err-count-clause-stopped : goal.returns-in_err-count-clause-stopped
returns-in_err-count-clause-stopped g c =
    let p = err_from_is_err_and c.from_residual.result c.from_residual.ensures.1 in
    rw (p.1, p.2) (λ first start reached.
    stops_reading (g.A.Answers.given c.args.answers.now) first (g.S.Source.seen c.args.source.now) (g.S.Source.seen c.read_piece.new.source) start (g.K.Sink.seen c.args.sink.now)
    c.args.frames.now c.args.progress c.in_err-count.field-0.0 reached c.in_err-count.ensures.stopped)

pub returns-clause-stopped : goal.returns-clause-stopped
returns-clause-stopped g c =
    MatchResult-weaker c.answer_piece.result c.answer_piece.ensures.stopped (λ x known. known) (λ stop stops first start reached.
    stops first (g.S.Source.seen c.args.source.now) (g.S.Source.seen c.read_piece.new.source) start reached c.in_ok-count.ensures.reads)
