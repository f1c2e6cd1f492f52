use Rattle.std.proofs.Common.{◌<◌, ◌∙◌, arith, length}
use Rattle.decl_parser.specs.Found.{seen}
use Rattle.decl_parser.proofs.FoundWalks.{found_further}
use Rattle.decl_parser.proofs.found.found_by_steps.Goals as goal

pub elements-preserved : goal.elements-preserved
elements-preserved c =
    let search = c.args.search in
    let some : c.elements.at < length c.args.search.list.now = omega arith in (
      found_further search.blocks.starts.now search.own search.list.now search.from search.insides.now c.elements.at c.in_ok-count.count (seen c.elements.findings) (seen c.step.new.findings)
          c.elements.invariant.1 some c.in_ok-count.ensures.more c.in_ok-count.ensures.found
          ∙ c.elements.invariant.0,
      omega arith,
      omega (arith, c.in_ok-count.ensures.bound),
    )
