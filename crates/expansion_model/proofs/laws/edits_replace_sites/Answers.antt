use Rattle.expansion_model.proofs.EditsOfSites.{edits_are_of_sites, edits_made}
use Rattle.expansion_model.proofs.laws.edits_replace_sites.Goals as goal

pub returns-clause-made : goal.returns-clause-made
returns-clause-made c = edits_made

pub returns-clause-spans : goal.returns-clause-spans
returns-clause-spans c = edits_are_of_sites
