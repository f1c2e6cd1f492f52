use Rattle.std.proofs.Common.{rules}
use Rattle.unique_names.specs.Names.{discriminator_of}
use Rattle.unique_names.proofs.naming.discriminator.Goals as goal

pub returns : goal.returns
unfolding discriminator_of
returns c = search rules
