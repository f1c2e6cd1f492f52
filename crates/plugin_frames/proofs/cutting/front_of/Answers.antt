use Rattle.std.proofs.Common.{◌≡◌, take, sym, ap, ◌∙◌, arith}
use Rattle.plugin_frames.specs.Frames.{spelled}
use Rattle.plugin_frames.proofs.Beginnings.{BeginsTooLong-at, IsUnfinished-payload}
use Rattle.plugin_frames.proofs.cutting.front_of.Goals as goal

pub returns-then-len-gt-LARGEST_PAYLOAD : goal.returns-then-len-gt-LARGEST_PAYLOAD
returns-then-len-gt-LARGEST_PAYLOAD c =
    let spells : spelled (take 8 c.args.bytes.now) ≡ c.length_in-len.result = ap spelled (sym c.in-Some.ensures.cases.0) ∙ sym c.length_in-len.ensures in
    BeginsTooLong-at _ _ spells (omega arith) (omega (arith, c.in-Some.ensures.cases.2))

pub returns-then-behind-len : goal.returns-then-behind-len
returns-then-behind-len c =
    let spells : spelled (take 8 c.args.bytes.now) ≡ c.length_in-len.result = ap spelled (sym c.in-Some.ensures.cases.0) ∙ sym c.length_in-len.ensures in
    IsUnfinished-payload _ _ spells (omega arith) (omega (arith, c.in-Some.ensures.cases.2))
