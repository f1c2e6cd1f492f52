use Rattle.std.proofs.Common.{◌≡◌, ◌++◌, string_bytes, drop}
use Rattle.unique_names.specs.Names.{steps_text}
use Rattle.unique_names.proofs.naming.put_steps.Given as goal

abbrev pub invariant-steps : goal.invariant-steps
invariant-steps l = string_bytes l.text ++ steps_text (drop l.step-index l.steps) ≡ string_bytes l.initial.text ++ steps_text l.steps
