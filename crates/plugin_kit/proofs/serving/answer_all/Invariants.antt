use Rattle.std.proofs.Common.{◌≡◌, ◌+◌, take}
use Rattle.plugin_frames.specs.Cutting.{payloads_of}
use Rattle.plugin_kit.specs.Answering.{AreAnswered}
use Rattle.plugin_kit.proofs.serving.answer_all.Given as goal

abbrev pub invariant-payloads : goal.invariant-payloads
invariant-payloads g l = record {
  number : l.next ≡ l.number + l.payload-index;
  answered : AreAnswered (g.A.Answers.given l.answers) (payloads_of (take l.payload-index l.payloads)) (g.K.Sink.seen l.initial.sink) (g.K.Sink.seen l.sink);
}
