use Rattle.std.proofs.Common.{length}
use Rattle.unique_names.proofs.role.+find_role.Given as goal

abbrev pub decreases-find_role : goal.decreases-find_role
decreases-find_role l = length l.rows.now
