use Rattle.unique_names.proofs.Prefix.{one_key_begins, prefix_free}
use Rattle.unique_names.proofs.naming.discriminators_are_prefix_free.Goals as goal

pub returns-clause-one_key : goal.returns-clause-one_key
returns-clause-one_key c = one_key_begins

pub returns-clause-prefix_free : goal.returns-clause-prefix_free
returns-clause-prefix_free c = prefix_free
