-- The box is opened: what is known of the macro behind it is known of the entry's.
use Rattle.std.proofs.Common.{subst, IfOk}
use Rattle.plugin_kit.proofs.registry.ask.Goals as goal

pub returns-clause-reply : goal.returns-clause-reply
returns-clause-reply g c = subst (λ body. IfOk c.expand.result ((g.dyn-1.0.entry body.0).1.meaning body.1 c.args.asked.now)) c.deref_box-1.ensures.1 c.expand.ensures.0
