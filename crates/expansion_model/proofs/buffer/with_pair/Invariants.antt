use Rattle.std.proofs.Common.{◌≡◌, ◌++◌, drop}
use Rattle.expansion_model.proofs.buffer.with_pair.Given as goal

abbrev pub invariant-ancestors : goal.invariant-ancestors
invariant-ancestors l = l.list.items ++ drop l.ancestor-index l.ancestors ≡ l.ancestors
