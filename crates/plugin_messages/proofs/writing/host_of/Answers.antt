use Rattle.std.proofs.Common.{subst, sym}
use Rattle.std.specs.Str.{IsUtf8}
use Rattle.plugin_messages.specs.Writable.{IsMacroWritable, ArePartsWritable}
use Rattle.plugin_messages.proofs.writing.host_of.Goals as goal

pub returns-clause-writable : goal.returns-clause-writable
returns-clause-writable c = λ w. (
  subst IsMacroWritable (sym c.in_ok-clone.ensures.cases) w.target,
  subst IsUtf8 (sym c.in_ok-discriminator.ensures) (c.discriminators_are_utf8.ensures c.args.request.now.key),
  subst ArePartsWritable (sym c.in_ok-clone-2.ensures.cases) w.parts,
)
