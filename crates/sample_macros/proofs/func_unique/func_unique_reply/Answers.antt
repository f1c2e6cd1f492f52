use Rattle.std.proofs.Common.{sym, subst}
use Rattle.std.specs.Str.{IsUtf8}
use Rattle.plugin_messages.specs.Writable.{WhereSome}
use Rattle.sample_macros.proofs.Literals.{unique_func_utf8}
use Rattle.sample_macros.proofs.func_unique.func_unique_reply.Goals as goal

pub returns-in_ok-text-in-Some-clause-writable : goal.returns-in_ok-text-in-Some-clause-writable
returns-in_ok-text-in-Some-clause-writable c = λ asked.
    let utf8 = subst (WhereSome IsUtf8) (sym c.in-Some.ensures.is) (c.in-Some.ensures.utf8 asked) in
    c.text_reply.ensures.writable (subst IsUtf8 (sym c.in_ok-text-in-Some.ensures) (unique_func_utf8 c.in-Some.discriminator.now utf8))
