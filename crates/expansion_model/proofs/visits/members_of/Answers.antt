use Rattle.std.proofs.Common.{ap, sym, ◌∙◌}
use Rattle.swift_tree.specs.Outlines.{block_of}
use Rattle.expansion_model.specs.Sites.{members_in}
use Rattle.expansion_model.proofs.Parts.{members_is-none, members_is-some}
use Rattle.expansion_model.proofs.visits.members_of.Goals as goal

pub returns-in-Some : goal.returns-in-Some
returns-in-Some c = c.members_in.ensures ∙ ap (λ b. members_in (block_of b)) c.deref.ensures ∙ sym (members_is-some c.args.item.now c.in-Some.block c.in-Some.is)

pub returns-in-None : goal.returns-in-None
returns-in-None c = sym (members_is-none c.args.item.now c.in-None.is)
