use Rattle.std.proofs.Common.{◌≡◌, Some, sym, ◌∙◌}
use Rattle.plugin_kit.specs.Answering.{length_met}
use Rattle.plugin_kit.proofs.Counts.{read_on_fits}
use Rattle.plugin_kit.proofs.Payloads.{refused_fits, refused_fed}
use Rattle.plugin_kit.proofs.serving.feed.Goals as goal

pub returns-in-Ok-clause-count : goal.returns-in-Ok-clause-count
returns-in-Ok-clause-count c = read_on_fits _ _ _ _ _ c.new-payloads.ensures.items c.in-Ok.ensures.ok.2

pub returns-in-Some-clause-count : goal.returns-in-Some-clause-count
returns-in-Some-clause-count c =
    let met : length_met c.in-Err.refusal ≡ Some c.in-Some.len = sym c.too_long.ensures ∙ c.in-Some.is in
    refused_fits c.in-Err.refusal c.in-Some.len _ _ c.args.piece.now _ c.feed.new.out.items met c.new-payloads.ensures.items c.in-Err.ensures.refused

pub returns-in-Some-clause-fed : goal.returns-in-Some-clause-fed
returns-in-Some-clause-fed c = λ rest held.
    let met : length_met c.in-Err.refusal ≡ Some c.in-Some.len = sym c.too_long.ensures ∙ c.in-Some.is in
    refused_fed c.in-Err.refusal c.in-Some.len _ _ c.args.piece.now _ c.feed.new.out.items rest met c.new-payloads.ensures.items c.in-Err.ensures.refused held
