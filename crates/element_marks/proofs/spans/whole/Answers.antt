use Rattle.std.proofs.Common.{sym}
use Rattle.element_marks.proofs.Ends.{whole_is}
use Rattle.element_marks.proofs.spans.whole.Goals as goal

pub returns : goal.returns
returns c = sym (whole_is c.args.marks.now c.in_ok-first.first.now c.in_ok-last.last.now (sym c.in_ok-first.ensures.value) (sym c.in_ok-last.ensures.value))
