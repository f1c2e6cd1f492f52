use Rattle.std.proofs.Common.{◌≡◌, ◌++◌, drop}
use Rattle.expansion_model.proofs.visiting.copied_names.Given as goal

abbrev pub invariant-rules : goal.invariant-rules
invariant-rules l = l.rules.items ++ drop l.rule-index l.names.rules ≡ l.names.rules
