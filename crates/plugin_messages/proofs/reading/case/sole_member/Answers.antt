use Rattle.std.proofs.Common.{◌≡◌, length, sym, ◌∙◌}
use Rattle.plugin_messages.proofs.Cases.{sole_of_one, sole_of_others}
use Rattle.plugin_messages.proofs.reading.case.sole_member.Goals as goal

pub returns-then-len-eq1 : goal.returns-then-len-eq1
returns-then-len-eq1 c =
    let one : length c.args.members.now.entries ≡ 1 = sym c.len.ensures.len ∙ c.if-len-eq1.true in
    rw c.as_str.ensures.value (sym (sole_of_one _ _ one c.in_ok-name.ensures.first))

pub returns-else-len-eq1 : goal.returns-else-len-eq1
returns-else-len-eq1 c = sym (sole_of_others _ (λ one. c.if-len-eq1.false (c.len.ensures.len ∙ one)))
