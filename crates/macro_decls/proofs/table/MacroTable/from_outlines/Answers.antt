use Rattle.macro_decls.proofs.Readable.{answers_readable}
use Rattle.macro_decls.proofs.table.MacroTable.from_outlines.Goals as goal

pub returns-clause-readable : goal.returns-clause-readable
returns-clause-readable c = answers_readable _ c.macros.result c.macros.ensures
