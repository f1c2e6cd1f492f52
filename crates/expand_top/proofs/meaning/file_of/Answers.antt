use Rattle.expand_top.proofs.Files.{if_short}
use Rattle.expand_top.proofs.meaning.file_of.Goals as goal

pub returns-clause-short : goal.returns-clause-short
returns-clause-short c = if_short _ _ c.file_at.result c.requires c.file_at.ensures
