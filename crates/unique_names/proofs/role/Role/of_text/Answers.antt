use Rattle.unique_names.proofs.role.Role.of_text.Goals as goal

pub returns : goal.returns
returns c = c.find_role.ensures
