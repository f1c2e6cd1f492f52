use Rattle.plugin_messages.proofs.Format.{as_spelled, read_whole}
use Rattle.plugin_messages.proofs.laws.tables_are_spelled.Goals as goal

pub returns-clause-tables : goal.returns-clause-tables
returns-clause-tables c = as_spelled

pub returns-clause-depth : goal.returns-clause-depth
returns-clause-depth c = read_whole
