use Rattle.role_names.proofs.Decided.{list_is_decided, unique_is_decided, is_decided}
use Rattle.role_names.proofs.covering.covered_names_are_decided.Goals as goal

pub returns : goal.returns
returns c = record { by_list = list_is_decided; unique = unique_is_decided; either = is_decided }
