use Rattle.std.proofs.Common.{◌≡◌, ℕ, Err, length, sym, ap, subst, ◌∙◌}
use Rattle.std.specs.Str.{chars}
use Rattle.swift_lexer.specs.declared.token.LexKind.TheVariants.{NotUtf8}
use Rattle.swift_lexer.specs.Tokens.{after_mark, IsLexedFrom, IsLexed, ill_formed, well_formed}
use Rattle.swift_lexer.proofs.Answering.{Answers-map}
use Rattle.swift_lexer.proofs.lexing.lex.Goals as goal

pub returns-in-Ok : goal.returns-in-Ok
returns-in-Ok c =
    let utf8 = c.in-Ok.ensures.cases in
    let rest : chars c.after_mark.result.now ≡ after_mark (chars c.args.text.now) = c.after_mark.ensures ∙ ap (λ l. after_mark (chars l)) utf8.0 in
    Answers-map _ c.lex_from.result (IsLexedFrom (length c.args.text.now) 0 (chars c.after_mark.result.now)) (IsLexed c.args.text.now)
    (λ outcome lexed. well_formed utf8.1 (subst (λ l. IsLexedFrom (length c.args.text.now) 0 l outcome) rest lexed))
    c.lex_from.ensures

pub returns-in-Err : goal.returns-in-Err
returns-in-Err c =
    subst (λ (at : ℕ). IsLexed c.args.text.now (Err (record { at = at; kind = NotUtf8 }))) (sym c.valid_up_to-at.ensures) (ill_formed _ c.in-Err.ensures.cases.1)
