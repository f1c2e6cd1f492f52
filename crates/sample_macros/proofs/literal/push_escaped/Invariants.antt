use Rattle.std.proofs.Common.{◌≡◌, ◌++◌, take}
use Rattle.sample_macros.specs.Samples.{escaped}
use Rattle.sample_macros.proofs.literal.push_escaped.Given as goal

abbrev pub invariant-bytes : goal.invariant-bytes
invariant-bytes l = l.text.items ≡ l.initial.text.items ++ escaped (take l.byte-index l.bytes)
