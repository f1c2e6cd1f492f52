use Rattle.std.proofs.Common.{is_ok, sym, ap, subst, refl, arith, ◌∙◌, ◌≡◌, ◌∷◌, ◌++◌, [], false, true}
use Rattle.std.proofs.ResultArms.{chosen}
use Rattle.std.proofs.lemmas.List.{nil_from_length}
use Rattle.swift_lexer.specs.Answers.{Refuses}
use Rattle.swift_lexer.specs.Openings.{Stops}
use Rattle.swift_lexer.specs.Trees.{closes, nest, forest_of}
use Rattle.swift_lexer.proofs.Standing.{Passes-close, Stops-unopened, Stops-mismatched}
use Rattle.swift_lexer.proofs.grouping.close_group.Goals as goal

pub returns-in_default : goal.returns-in_default
returns-in_default c =
    subst (λ refusal. Refuses refusal (Stops c.args.text.now c.args.right c.args.grouping.now)) (sym c.refusal_at.ensures) (Stops-unopened c.args.text.now c.args.right c.args.grouping.now c.requires (nil_from_length _ (omega (arith, c.in_default.ensures.cases.0, c.args.grouping.now.levels.ok.0))))

pub returns-then-not-closes : goal.returns-then-not-closes
returns-then-not-closes c =
    let popped = c.in-Some.ensures.items in
    let differs : closes c.args.text.now c.in-Some.field-0.left c.args.right ≡ false = sym c.if-not-closes.ensures in
    subst (λ refusal. Refuses refusal (Stops c.args.text.now c.args.right c.args.grouping.now)) (sym c.refusal_at-then-not-closes.ensures) (Stops-mismatched c.args.text.now c.args.right c.args.grouping.now _ _ popped c.requires differs)

pub returns : goal.returns
returns c =
    let popped = c.in-Some.ensures.items in
    let pushed = chosen _ _ _ _ c.push-2.ensures.items (ap is_ok c.in_ok-push-2.was) in
    let same : closes c.args.text.now c.in-Some.field-0.left c.args.right ≡ true = sym c.if-not-closes.ensures in
    let is_nest = c.in-Ok.ensures ∙ ap (λ list. nest c.in-Some.field-0.left (forest_of list.items) c.args.right) c.replace-used.ensures.value in
    let joined = pushed ∙ ap (λ before. before.items ++ c.in-Ok.group ∷ []) c.replace-used.ensures.after in
    Passes-close c.args.text.now c.args.right c.args.grouping.now _ _ popped _ _ refl is_nest joined c.requires same
