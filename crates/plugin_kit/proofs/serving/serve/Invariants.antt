use Rattle.std.proofs.Common.{◌+◌, ◌-◌, ◌≤◌}
use Rattle.plugin_kit.specs.Served.{most_bytes}
use Rattle.plugin_kit.specs.Answering.{held_bytes, Reached}
use Rattle.plugin_kit.proofs.serving.serve.Given as goal

abbrev pub invariant-pieces : goal.invariant-pieces
invariant-pieces g l = record {
  counted : l.progress.requests + held_bytes l.frames ≤ l.progress.taken;
  reached : Reached (g.A.Answers.given l.answers) (g.S.Source.seen l.initial.source) (g.S.Source.seen l.source) (g.K.Sink.seen l.initial.sink) (g.K.Sink.seen l.sink) l.frames l.progress;
}

abbrev pub decreases-pieces : goal.decreases-pieces
decreases-pieces g l = most_bytes + 1 - l.progress.taken
