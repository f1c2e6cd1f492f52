use Rattle.std.proofs.Common.{is_ok, sym, ap, subst, refl, arith, ◌∙◌}
use Rattle.std.proofs.ResultArms.{chosen}
use Rattle.swift_lexer.specs.Answers.{Refuses}
use Rattle.swift_lexer.specs.Openings.{Stops}
use Rattle.swift_lexer.proofs.Standing.{Passes-open, Stops-too_deep}
use Rattle.swift_lexer.proofs.grouping.open_group.Goals as goal

pub returns-then-depth-ge-DEEPEST : goal.returns-then-depth-ge-DEEPEST
returns-then-depth-ge-DEEPEST c = λ text.
    subst (λ refusal. Refuses refusal (Stops text c.args.left c.args.grouping.now)) (sym c.refusal_at.ensures) (Stops-too_deep text c.args.left c.args.grouping.now c.requires (omega (arith, c.args.grouping.now.levels.ok.0)))

pub returns : goal.returns
returns c = λ text.
    let pushed = chosen _ _ _ _ c.push.ensures.items (ap is_ok c.in_ok-push.was) in
    Passes-open text c.args.left c.args.grouping.now _ _ pushed c.replace-before.ensures.value refl (ap (λ v. v.items) c.replace-before.ensures.after ∙ c.empty_list-empty.ensures) c.requires (omega (arith, c.args.grouping.now.levels.ok.0))
