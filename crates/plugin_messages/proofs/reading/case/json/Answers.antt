use Rattle.std.proofs.Common.{ap, ◌∙◌, sym}
use Rattle.serde_json.specs.Read.{read}
use Rattle.plugin_messages.specs.declared.message.Reason.TheVariants.{NotJson}
use Rattle.plugin_messages.specs.Fields.{found_or}
use Rattle.plugin_messages.proofs.Cases.{json_of_utf8, json_of_other_bytes}
use Rattle.plugin_messages.proofs.reading.case.json.Goals as goal

pub returns-in_default : goal.returns-in_default
returns-in_default c = ap (found_or NotJson) (json_of_other_bytes _ c.in_default.ensures.cases.0)

pub returns-in-Ok-from_str : goal.returns-in-Ok-from_str
returns-in-Ok-from_str c =
    let text = c.in-Ok.ensures.cases in
    ap (found_or NotJson) (json_of_utf8 _ text.1 ∙ (sym (ap read text.0) ∙ c.in-Ok-from_str.ensures.ok))
