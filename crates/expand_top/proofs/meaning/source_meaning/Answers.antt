use Rattle.std.proofs.Common.{ap, map, sym, subst, ◌∙◌}
use Rattle.expand_top.specs.Meaning.{named_seen}
use Rattle.expand_top.specs.Means.{AreShort}
use Rattle.expand_top.proofs.Files.{more_short}
use Rattle.expand_top.proofs.meaning.source_meaning.Goals as goal

pub table_meaning-requires-clause-short : goal.table_meaning-requires-clause-short
table_meaning-requires-clause-short c =
    subst AreShort (sym (ap (map named_seen) c.deref.ensures.value ∙ c.in_ok-all-in-Ok.ensures)) (more_short _ _ c.requires.short c.requires.source)
