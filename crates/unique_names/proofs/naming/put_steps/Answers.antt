use Rattle.std.proofs.Common.{◌≤◌, ◌<◌, length, arith, append_assoc}
use Rattle.std.proofs.lemmas.Str.{encode_ascii}
use Rattle.unique_names.proofs.Prefix.{steps_text_at, steps_text_end}
use Rattle.unique_names.proofs.naming.put_steps.Goals as goal

pub steps-preserved : goal.steps-preserved
steps-preserved c =
    let more : c.steps.step-index < length c.args.steps.now = omega arith in
    rw (c.in_ok-put_step.ensures, append_assoc, ← (steps_text_at c.args.steps.now c.steps.step-index _ more)) c.steps.invariant

pub returns : goal.returns
returns c =
    let done : length c.args.steps.now ≤ c.steps.step-index = omega arith in
    rw (c.in_ok-push.ensures.bytes, encode_ascii 69 (omega arith), ← (steps_text_end c.args.steps.now c.steps.step-index done)) c.steps.invariant
