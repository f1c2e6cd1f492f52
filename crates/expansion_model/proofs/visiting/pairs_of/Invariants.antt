use Rattle.std.proofs.Common.{◌≡◌, ◌++◌, drop}
use Rattle.std.specs.List.{flat_map}
use Rattle.expansion_model.specs.Visit.{pairs_in, pairs_of}
use Rattle.expansion_model.proofs.visiting.pairs_of.Given as goal

abbrev pub invariant-macros : goal.invariant-macros
invariant-macros l = l.pairs.items ++ flat_map pairs_in (drop l.index l.macros) ≡ pairs_of l.macros
