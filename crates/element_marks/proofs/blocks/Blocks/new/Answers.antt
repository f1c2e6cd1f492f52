use Rattle.element_marks.proofs.Searched.{told_rising}
use Rattle.element_marks.proofs.blocks.Blocks.new.Goals as goal

pub invariant_of-result : goal.invariant_of-result
invariant_of-result c = record { rising = (told_rising c.args.starts.now c.is_sorted.result c.is_sorted.ensures.cases).0 }

pub returns-clause-rises : goal.returns-clause-rises
returns-clause-rises c = told_rising c.args.starts.now c.is_sorted.result c.is_sorted.ensures.cases
