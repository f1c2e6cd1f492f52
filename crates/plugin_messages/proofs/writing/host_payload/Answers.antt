use Rattle.std.proofs.Common.{ap, ◌∙◌}
use Rattle.std.proofs.lemmas.Result.{IfOk-weaker}
use Rattle.serde_json.specs.Written.{has_float, compact_text}
use Rattle.plugin_messages.specs.RequestBytes.{host_payload_of}
use Rattle.plugin_messages.proofs.NoFloats.{host_without}
use Rattle.plugin_messages.proofs.writing.host_payload.Goals as goal

pub returns : goal.returns
unfolding host_payload_of
returns c =
    let built = c.in_ok-host_value.ensures in
    let plain = ap has_float built ∙ host_without c.args.message.now in
    IfOk-weaker c.to_vec.result _ _ (λ payload text. text plain ∙ ap compact_text built) c.to_vec.ensures.text
