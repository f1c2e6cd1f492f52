use Rattle.std.proofs.Common.{length}
use Rattle.macro_decls.proofs.roles.+among.Given as goal

abbrev pub decreases-among : goal.decreases-among
decreases-among l = length l.rows.now
