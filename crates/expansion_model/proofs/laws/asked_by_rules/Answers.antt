use Rattle.expansion_model.proofs.AskedByRules.{asked_by_rules, rules_asked}
use Rattle.expansion_model.proofs.laws.asked_by_rules.Goals as goal

pub returns-clause-asked : goal.returns-clause-asked
returns-clause-asked c = asked_by_rules

pub returns-clause-rules : goal.returns-clause-rules
returns-clause-rules c = rules_asked
