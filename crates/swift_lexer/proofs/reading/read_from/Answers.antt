use Rattle.std.proofs.Common.{ℕ, Some, Ok, sym, ap, arith, length, subst, rules, ◌∙◌}
use Rattle.std.specs.Str.{chars}
use Rattle.swift_lexer.specs.Answers.{Answers}
use Rattle.swift_lexer.specs.Groups.{IsGrouped}
use Rattle.swift_lexer.specs.Openings.{Takes}
use Rattle.swift_lexer.specs.Trees.{forest_of}
use Rattle.swift_lexer.specs.declared.found.Found.TheVariants as found
use Rattle.swift_lexer.specs.declared.strings.Open.TheVariants.{InString}
use Rattle.swift_lexer.specs.Tokens.{Closes}
use Rattle.swift_lexer.proofs.Leaving.{Passes-shorter, Passes-then, at_front-passes}
use Rattle.swift_lexer.proofs.Endings.{Closes-passes}
use Rattle.swift_lexer.proofs.Blanks.{Underway-blanks, blanks_shorten}
use Rattle.swift_lexer.proofs.Underway.{Underway, Underway-ends, Underway-passes, Underway-quotes, Underway-reads, Underway-start}
use Rattle.swift_lexer.proofs.reading.read_from.Goals as goal

pub tokens-init : goal.tokens-init
tokens-init c = (search rules, Underway-start c.args.bytes.now c.args.total (chars c.args.text.now) c.nothing_open-grouping.result c.nothing_open-grouping.ensures.levels c.nothing_open-grouping.ensures.here)

pub tokens-smaller-in-Trivia : goal.tokens-smaller-in-Trivia
tokens-smaller-in-Trivia c =
    Passes-shorter _ _ (at_front-passes (chars c.tokens.rest.now) found.Trivia (chars c.in-Some.after.now) (sym c.in-Some.ensures ∙ ap (λ w. Some (w, chars c.in-Some.after.now)) c.in-Trivia.is) tt)

pub tokens-preserved-in-Trivia : goal.tokens-preserved-in-Trivia
tokens-preserved-in-Trivia c =
    (search rules, Underway-passes c.tokens.invariant.1 (chars c.in-Some.after.now) (sym c.in-Some.ensures ∙ ap (λ w. Some (w, chars c.in-Some.after.now)) c.in-Trivia.is))

pub tokens-smaller-in-Token : goal.tokens-smaller-in-Token
tokens-smaller-in-Token c =
    let after = chars c.in-Some.after.now in
    let shorter = Passes-shorter _ _ (at_front-passes (chars c.tokens.rest.now) (found.Token c.in-Token.class) after (sym c.in-Some.ensures ∙ ap (λ w. Some (w, after)) c.in-Token.is) tt) in
    omega (arith, shorter, blanks_shorten after, ap length c.after_run-rest.ensures)

pub tokens-preserved-in-Token : goal.tokens-preserved-in-Token
tokens-preserved-in-Token c =
    let text = chars c.args.text.now in
    let after = chars c.in-Some.after.now in
    let token = c.token_between-token.result in
    let read = Underway-reads c.tokens.invariant.1 c.in-Token.class after token c.take.new.grouping (sym c.in-Some.ensures ∙ ap (λ w. Some (w, after)) c.in-Token.is) c.token_between-token.ensures
    (subst (Takes c.args.bytes.now token c.tokens.grouping c.take.new.grouping) c.in-Ok.is c.take.ensures) in
    (search rules, subst (Underway c.args.bytes.now c.args.total text c.take.new.grouping token.end) (sym c.after_run-rest.ensures) (Underway-blanks read))

pub tokens-smaller : goal.tokens-smaller
tokens-smaller c =
    let after = chars c.in-Some.after.now in
    let behind = chars c.in-Ok-after_string.behind.now in
    let is = (sym c.in-Some.ensures ∙ ap (λ w. Some (w, after)) c.in-Opens.is) in
    let shorter = Passes-shorter _ _ (Passes-then _ _ _ (at_front-passes (chars c.tokens.rest.now) (found.Opens c.in-Opens.quotes) after is tt)
    (Closes-passes _ _ _ after behind c.in-Ok-after_string.ensures)) in
    omega (arith, shorter, blanks_shorten behind, ap length c.after_run-rest-in-Opens.ensures)

pub tokens-preserved : goal.tokens-preserved
tokens-preserved c =
    let text = chars c.args.text.now in
    let after = chars c.in-Some.after.now in
    let behind = chars c.in-Ok-after_string.behind.now in
    let token = c.token_between-token-in-Opens.result in
    let closes = subst (λ (at : ℕ). Closes c.args.total (InString c.in-Opens.quotes) at after (Ok behind)) c.place-start.ensures c.in-Ok-after_string.ensures in
    let read = Underway-quotes c.tokens.invariant.1 c.in-Opens.quotes after behind token c.take-in-Opens.new.grouping (sym c.in-Some.ensures ∙ ap (λ w. Some (w, after)) c.in-Opens.is) closes c.token_between-token-in-Opens.ensures
    (subst (Takes c.args.bytes.now token c.tokens.grouping c.take-in-Opens.new.grouping) c.in-Ok-take.is c.take-in-Opens.ensures) in
    (search rules, subst (Underway c.args.bytes.now c.args.total text c.take-in-Opens.new.grouping token.end) (sym c.after_run-rest-in-Opens.ensures) (Underway-blanks read))

pub returns-in-Ok-finish : goal.returns-in-Ok-finish
returns-in-Ok-finish c =
    Underway-ends c.tokens.invariant.1 (forest_of c.in-Ok-finish.elements.items) (sym c.in_default.ensures)
    (λ tokens stands. subst (λ r. Answers (λ elements. forest_of elements.items) r (IsGrouped c.args.bytes.now tokens)) c.in-Ok-finish.is (c.finish.ensures c.args.bytes.now tokens stands))
