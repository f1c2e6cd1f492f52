use Rattle.unique_names.proofs.Made.{are_unique, differ, are_utf8}
use Rattle.unique_names.proofs.unique.made_names_are_unique.Goals as goal

pub returns : goal.returns
returns c = record { unique = are_unique; apart = differ; utf8 = are_utf8 }
