use Rattle.std.proofs.Common.{sym, arith}
use Rattle.element_marks.proofs.Starting.{head_within, known_first, no_first}
use Rattle.element_marks.proofs.heads.known_head.Goals as goal

pub returns-in-Some-clause-bound : goal.returns-in-Some-clause-bound
returns-in-Some-clause-bound c = omega (arith, known_first c.args.marks.now c.in-Some.mark.now (sym c.in-Some.ensures.value) c.requires, head_within c.args.marks.now)

pub returns-in-None-clause-value : goal.returns-in-None-clause-value
returns-in-None-clause-value c = no_first c.args.marks.now (sym c.in-None.ensures.value)
