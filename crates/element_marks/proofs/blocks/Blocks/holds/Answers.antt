use Rattle.std.proofs.Common.{◌∙◌}
use Rattle.element_marks.proofs.Searched.{searched_any}
use Rattle.element_marks.proofs.blocks.Blocks.holds.Goals as goal

pub returns-then-self : goal.returns-then-self
returns-then-self c = c.is_ok.ensures.value ∙ searched_any c.args.self.starts.now c.args.start c.binary_search.result c.binary_search.ensures.position (c.args.self.rising c.if-self.true)
