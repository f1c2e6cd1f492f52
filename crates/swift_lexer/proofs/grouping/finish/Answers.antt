use Rattle.std.proofs.Common.{sym, subst, arith}
use Rattle.std.proofs.lemmas.List.{nil_from_length}
use Rattle.swift_lexer.specs.Answers.{Refuses}
use Rattle.swift_lexer.specs.Groups.{IsGrouped}
use Rattle.swift_lexer.proofs.Standing.{unclosed_at_end, grouped_at_end}
use Rattle.swift_lexer.proofs.grouping.finish.Goals as goal

pub returns-in-Some : goal.returns-in-Some
returns-in-Some c = λ text tokens stands.
    let popped = c.in-Some.ensures.items in
    subst (λ refusal. Refuses refusal (IsGrouped text tokens)) (sym c.refusal_at.ensures) (unclosed_at_end text c.in-Some.group.left c.args.grouping _ _ popped tokens stands)

pub returns : goal.returns
returns c = λ text tokens stands.
    grouped_at_end text tokens c.args.grouping (nil_from_length _ (omega (arith, c.in-None.ensures.cases.0, c.args.grouping.levels.ok.0))) stands
