use Rattle.std.proofs.Common.{sym, subst}
use Rattle.std.specs.Str.{IsUtf8}
use Rattle.sample_macros.proofs.Literals.{stringified_utf8}
use Rattle.sample_macros.proofs.stringify.reply_with.Goals as goal

pub returns-clause-writable : goal.returns-clause-writable
returns-clause-writable c = λ utf8. c.text_reply.ensures.writable (subst IsUtf8 (sym c.in_ok-text.ensures) (stringified_utf8 c.args.argument.now utf8))
