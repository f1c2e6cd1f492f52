use Rattle.std.proofs.Common.{refl, ap, arith}
use Rattle.plugin_kit.specs.Answering.{held_bytes}
use Rattle.plugin_kit.proofs.Reaching.{reached_none}
use Rattle.plugin_kit.proofs.serving.serve.Goals as goal

pub pieces-init : goal.pieces-init
pieces-init g c = record {
  counted = omega (arith, ap held_bytes c.new-frames.ensures);
  reached = reached_none (g.A.Answers.given c.args.answers.now) (g.S.Source.seen c.args.source.now) (g.K.Sink.seen c.args.sink.now) c.new-frames.result _ c.new-frames.ensures refl refl;
}
