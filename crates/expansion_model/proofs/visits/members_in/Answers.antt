use Rattle.std.proofs.Common.{sym, ap, ◌∙◌, inl, inr}
use Rattle.swift_tree.specs.Outlines.{items_of}
use Rattle.expansion_model.specs.Sites.{count_members}
use Rattle.expansion_model.proofs.Parts.{members_in-members, members_in-body, members_in-accessors}
use Rattle.expansion_model.proofs.visits.members_in.Goals as goal

pub returns-in-Members : goal.returns-in-Members
returns-in-Members c = c.count_members.ensures ∙ ap (λ l. count_members (items_of l)) c.deref.ensures.value ∙ sym (members_in-members c.args.block.now c.in-Members.is)

pub returns-in-Body : goal.returns-in-Body
returns-in-Body c =
    elim c.in-Body.is [
      | inl body ↦ sym (members_in-body c.args.block.now body)
      | inr accessors ↦ sym (members_in-accessors c.args.block.now accessors)
    ]
