use Rattle.unique_names.proofs.Laws.{role_of_text}
use Rattle.unique_names.proofs.role.texts_tell_roles.Goals as goal

pub returns : goal.returns
returns c = role_of_text
