use Rattle.std.proofs.Common.{ℕ, Some, Err, is_ok, sym, ap, subst, arith, rules, ◌∙◌}
use Rattle.std.proofs.ResultArms.{chosen}
use Rattle.std.proofs.lemmas.List.{nil_from_length}
use Rattle.std.specs.Str.{chars}
use Rattle.swift_lexer.specs.declared.strings.Step.TheVariants as step
use Rattle.swift_lexer.specs.declared.strings.Open.TheVariants.{InString}
use Rattle.swift_lexer.specs.Tokens.{Closes, string_start}
use Rattle.swift_lexer.proofs.Leaving.{Passes-shorter, step_in-passes}
use Rattle.swift_lexer.proofs.Unfinished.{Unfinished-goes_on, Unfinished-opens, Unfinished-ends, Unfinished-done, Unfinished-fails, Unfinished-stays_open}
use Rattle.swift_lexer.proofs.strings.after_string.Goals as goal

pub returns-in_default : goal.returns-in_default
returns-in_default c = Unfinished-stays_open c.steps.invariant.1 (sym c.in_default.ensures.value)

pub steps-smaller-in-GoesOn : goal.steps-smaller-in-GoesOn
steps-smaller-in-GoesOn c =
    Passes-shorter _ _ (step_in-passes c.steps.level.within (chars c.steps.rest.now) step.GoesOn (chars c.in-Some.after.now) (sym c.in-Some.ensures.value ∙ ap (λ s. Some (s, chars c.in-Some.after.now)) c.in-GoesOn.is) tt)

pub steps-preserved-in-GoesOn : goal.steps-preserved-in-GoesOn
steps-preserved-in-GoesOn c =
    (search rules, Unfinished-goes_on c.steps.invariant.1 (chars c.in-Some.after.now) (sym c.in-Some.ensures.value ∙ ap (λ s. Some (s, chars c.in-Some.after.now)) c.in-GoesOn.is))

pub steps-smaller-in-Opens : goal.steps-smaller-in-Opens
steps-smaller-in-Opens c =
    Passes-shorter _ _ (step_in-passes c.steps.level.within (chars c.steps.rest.now) (step.Opens c.in-Opens.opened) (chars c.in-Some.after.now) (sym c.in-Some.ensures.value ∙ ap (λ s. Some (s, chars c.in-Some.after.now)) c.in-Opens.is) tt)

pub steps-preserved-in-Opens : goal.steps-preserved-in-Opens
steps-preserved-in-Opens c =
    let pushed = chosen _ _ _ _ c.push.ensures.items (ap is_ok c.in_ok-push-in-Opens.was) in
    let is = sym c.in-Some.ensures.value ∙ ap (λ s. Some (s, chars c.in-Some.after.now)) c.in-Opens.is in
    let start = c.string_start.ensures ∙ ap (string_start c.in-Opens.opened c.steps.level.start) c.place.ensures in
    (search rules, Unfinished-opens c.steps.invariant.1 (record { within = c.in-Opens.opened; start = c.string_start.result }) c.push.new.self.items (chars c.in-Some.after.now) is start pushed)

pub returns-in_default-pop : goal.returns-in_default-pop
returns-in_default-pop c =
    Unfinished-done c.steps.invariant.1 (chars c.in-Some.after.now) (sym c.in-Some.ensures.value ∙ ap (λ s. Some (s, chars c.in-Some.after.now)) c.in-Ends.is) (nil_from_length _ (omega (arith, c.in_default-pop.ensures.cases.0, c.steps.around.ok.0)))

pub steps-smaller : goal.steps-smaller
steps-smaller c =
    Passes-shorter _ _ (step_in-passes c.steps.level.within (chars c.steps.rest.now) step.Ends (chars c.in-Some.after.now) (sym c.in-Some.ensures.value ∙ ap (λ s. Some (s, chars c.in-Some.after.now)) c.in-Ends.is) tt)

pub steps-preserved : goal.steps-preserved
steps-preserved c =
    (search rules, Unfinished-ends c.steps.invariant.1 c.pop.new.self.items c.in-Some-pop.outer (chars c.in-Some.after.now) (sym c.in-Some.ensures.value ∙ ap (λ s. Some (s, chars c.in-Some.after.now)) c.in-Ends.is) c.in-Some-pop.ensures.items)

pub returns-in-Fails : goal.returns-in-Fails
returns-in-Fails c =
    subst (λ (at : ℕ). Closes c.args.total (InString c.args.quotes) c.args.start (chars c.args.inside.now) (Err (record { at = at; kind = c.in-Fails.kind }))) (sym c.place-at.ensures) (Unfinished-fails c.steps.invariant.1 c.in-Fails.kind (chars c.in-Some.after.now) (sym c.in-Some.ensures.value ∙ ap (λ s. Some (s, chars c.in-Some.after.now)) c.in-Fails.is))
