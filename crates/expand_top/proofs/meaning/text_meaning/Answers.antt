use Rattle.expand_top.proofs.Files.{head_short}
use Rattle.expand_top.proofs.meaning.text_meaning.Goals as goal

pub refused-requires : goal.refused-requires
refused-requires c = head_short c.args.file c.in-Some.file c.in-Some.is c.requires.file
