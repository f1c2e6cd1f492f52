use Rattle.std.proofs.Common.{ℕ, Some, Ok, Err, is_ok, sym, ap, subst, rules, ◌∙◌}
use Rattle.std.proofs.ResultArms.{chosen}
use Rattle.std.proofs.lemmas.Result.{err_from_is_err_and}
use Rattle.std.specs.Str.{chars}
use Rattle.swift_lexer.specs.Answers.{Refuses}
use Rattle.swift_lexer.specs.declared.found.Found.TheVariants as found
use Rattle.swift_lexer.specs.declared.strings.Open.TheVariants.{InString}
use Rattle.swift_lexer.specs.Tokens.{Closes, IsLexedFrom}
use Rattle.swift_lexer.proofs.Leaving.{Passes-shorter, Passes-then, at_front-passes}
use Rattle.swift_lexer.proofs.Endings.{Closes-passes}
use Rattle.swift_lexer.proofs.Begun.{Begun-passes, Begun-reads, Begun-quotes, Begun-ends, Begun-fails, Begun-breaks}
use Rattle.swift_lexer.proofs.lexing.lex_from.Goals as goal

pub tokens-smaller-in-Trivia : goal.tokens-smaller-in-Trivia
tokens-smaller-in-Trivia c =
    Passes-shorter _ _ (at_front-passes (chars c.tokens.rest.now) found.Trivia (chars c.in-Some.after.now) (sym c.in-Some.ensures ∙ ap (λ w. Some (w, chars c.in-Some.after.now)) c.in-Trivia.is) tt)

pub tokens-preserved-in-Trivia : goal.tokens-preserved-in-Trivia
tokens-preserved-in-Trivia c =
    (search rules, Begun-passes c.tokens.invariant.1 (chars c.in-Some.after.now) (sym c.in-Some.ensures ∙ ap (λ w. Some (w, chars c.in-Some.after.now)) c.in-Trivia.is))

pub tokens-smaller-in-Token : goal.tokens-smaller-in-Token
tokens-smaller-in-Token c =
    Passes-shorter _ _ (at_front-passes (chars c.tokens.rest.now) (found.Token c.in-Token.class) (chars c.in-Some.after.now) (sym c.in-Some.ensures ∙ ap (λ w. Some (w, chars c.in-Some.after.now)) c.in-Token.is) tt)

pub tokens-preserved-in-Token : goal.tokens-preserved-in-Token
tokens-preserved-in-Token c =
    let pushed = chosen _ _ _ _ c.push.ensures.items (ap is_ok c.in_ok-push-in-Token.was) in
    (search rules, Begun-reads c.tokens.invariant.1 c.in-Token.class (chars c.in-Some.after.now) c.token_between-token.result c.push.new.self.items (sym c.in-Some.ensures ∙ ap (λ w. Some (w, chars c.in-Some.after.now)) c.in-Token.is) c.token_between-token.ensures pushed)

pub returns-in_err-behind-in-Opens : goal.returns-in_err-behind-in-Opens
returns-in_err-behind-in-Opens c =
    let refused = err_from_is_err_and c.from_residual-in_err-behind-in-Opens.result c.from_residual-in_err-behind-in-Opens.ensures.1 in
    let closes = subst (λ (at : ℕ). Refuses c.in_err-behind-in-Opens.field-0.0 (Closes c.args.total (InString c.in-Opens.quotes) at (chars c.in-Some.after.now))) c.place.ensures c.in_err-behind-in-Opens.ensures in
    let breaks = Begun-breaks c.tokens.invariant.1 c.in-Opens.quotes (chars c.in-Some.after.now) c.in_err-behind-in-Opens.field-0.0 (sym c.in-Some.ensures ∙ ap (λ w. Some (w, chars c.in-Some.after.now)) c.in-Opens.is) closes in
    rw (refused.1, refused.2) breaks

pub tokens-smaller : goal.tokens-smaller
tokens-smaller c =
    let is = (sym c.in-Some.ensures ∙ ap (λ w. Some (w, chars c.in-Some.after.now)) c.in-Opens.is) in
    let closes = c.in_ok-behind-in-Opens.ensures in
    Passes-shorter _ _ (Passes-then _ _ _ (at_front-passes (chars c.tokens.rest.now) (found.Opens c.in-Opens.quotes) (chars c.in-Some.after.now) is tt)
    (Closes-passes _ _ _ (chars c.in-Some.after.now) (chars c.in_ok-behind-in-Opens.behind.now) closes))

pub tokens-preserved : goal.tokens-preserved
tokens-preserved c =
    let pushed = chosen _ _ _ _ c.push-in-Opens.ensures.items (ap is_ok c.in_ok-push-in-Opens.was) in
    let closes = subst (λ (at : ℕ). Closes c.args.total (InString c.in-Opens.quotes) at (chars c.in-Some.after.now) (Ok (chars c.in_ok-behind-in-Opens.behind.now))) c.place.ensures c.in_ok-behind-in-Opens.ensures in
    (search rules, Begun-quotes c.tokens.invariant.1 c.in-Opens.quotes (chars c.in-Some.after.now) (chars c.in_ok-behind-in-Opens.behind.now) c.token_between-token-in-Opens.result c.push-in-Opens.new.self.items (sym c.in-Some.ensures ∙ ap (λ w. Some (w, chars c.in-Some.after.now)) c.in-Opens.is) closes c.token_between-token-in-Opens.ensures pushed)

pub returns-in-Fails : goal.returns-in-Fails
returns-in-Fails c =
    subst (λ (at : ℕ). IsLexedFrom c.args.total 0 (chars c.args.text.now) (Err (record { at = at; kind = c.in-Fails.kind }))) (sym c.place-at.ensures) (Begun-fails c.tokens.invariant.1 c.in-Fails.kind (chars c.in-Some.after.now) (sym c.in-Some.ensures ∙ ap (λ w. Some (w, chars c.in-Some.after.now)) c.in-Fails.is))

pub returns : goal.returns
returns c = Begun-ends c.tokens.invariant.1 (sym c.in_default.ensures)
