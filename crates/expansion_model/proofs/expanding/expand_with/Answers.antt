use Rattle.std.proofs.Common.{◌∙◌, ◌≡◌, sym, ap, subst, arith, ℕ, List, length}
use Rattle.expansion_model.specs.Buffers.{buffer_seen}
use Rattle.expansion_model.specs.Steps.{IsStep, StepSeen, step_by, step_of, step_seen}
use Rattle.expansion_model.specs.Table.{look}
use Rattle.expansion_model.specs.Visit.{visit}
use Rattle.expansion_model.proofs.Accepted.{sound_is_short}
use Rattle.expansion_model.proofs.StepsTell.{step_tells}
use Rattle.expansion_model.proofs.expanding.expand_with.Goals as goal

pub step_by-requires : goal.step_by-requires
step_by-requires c = omega (arith, sound_is_short (buffer_seen c.args.source.now) c.requires.sound, ap (λ (t : List ℕ). length t) c.bytes.ensures)

pub returns-clause-answer : goal.returns-clause-answer
unfolding step_of
returns-clause-answer c =
    let found = visit c.args.macros.now c.args.plugins.now (look c.args.table.now) (buffer_seen c.args.source.now) in
    let is : step_seen c.in_ok-step.step ≡ step_of c.args.macros.now c.args.plugins.now (look c.args.table.now) (buffer_seen c.args.source.now) =
    c.in_ok-step.ensures (look c.args.table.now) found (rw c.list.ensures at c.in_ok-visited.ensures) ∙ ap (λ (t : List ℕ). step_by (look c.args.table.now) t found) c.bytes.ensures in
    subst (λ (s : StepSeen). IsStep c.args.macros.now c.args.plugins.now (look c.args.table.now) (buffer_seen c.args.source.now) s) (sym is)
    (step_tells c.args.macros.now c.args.plugins.now (look c.args.table.now) (buffer_seen c.args.source.now))
