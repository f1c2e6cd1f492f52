use Rattle.unique_names.proofs.Texts.{discriminator_is_utf8}
use Rattle.unique_names.proofs.naming.discriminators_are_utf8.Goals as goal

pub returns : goal.returns
returns c = discriminator_is_utf8
