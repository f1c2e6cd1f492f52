use Rattle.std.proofs.Common.{◌≡◌, ℕ, List, [], ◌++◌, length}
use Rattle.swift_base.specs.Told.{then_bytes}
use Rattle.swift_base.proofs.write.write_all.Given as goal

abbrev pub invariant-loop-rest : goal.invariant-loop-rest
invariant-loop-rest g l = record {
  written : (done : List ℕ) × (done ++ l.rest ≡ l.bytes) × ((g.S.Sink.seen l.sink).held ≡ then_bytes (g.S.Sink.seen l.initial.sink).held done);
  steady : (g.S.Sink.seen l.sink).faults ≡ (g.S.Sink.seen l.initial.sink).faults;
  closing : (g.S.Sink.seen l.sink).closing ≡ (g.S.Sink.seen l.initial.sink).closing;
  no_call : l.bytes ≡ [] → l.sink ≡ l.initial.sink;
}

abbrev pub decreases-loop-rest : goal.decreases-loop-rest
decreases-loop-rest g l = length l.rest
