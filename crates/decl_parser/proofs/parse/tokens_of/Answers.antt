use Rattle.std.proofs.Common.{◌≡◌, ◌∙◌, ap, sym, subst, Ok, Err}
use Rattle.swift_lexer.specs.Answers as lexer
use Rattle.swift_lexer.specs.Tokens.{IsLexed}
use Rattle.element_marks.specs.Answers.{Refuses}
use Rattle.decl_parser.specs.Outline.{read_tokens}
use Rattle.decl_parser.proofs.Readings.{tokens_read, too_long}
use Rattle.decl_parser.proofs.parse.tokens_of.Goals as goal

pub returns-then-text-gt-LONGEST_SOURCE-clause-tokens : goal.returns-then-text-gt-LONGEST_SOURCE-clause-tokens
returns-then-text-gt-LONGEST_SOURCE-clause-tokens c =
    subst (λ r. Refuses r (λ outcome. outcome ≡ read_tokens c.args.text.now)) (sym c.fault.ensures) (too_long c.args.text.now c.if-text-gt-LONGEST_SOURCE.true)

pub returns-in-Ok-clause-tokens : goal.returns-in-Ok-clause-tokens
returns-in-Ok-clause-tokens c = tokens_read c.args.text.now (Ok c.in-Ok.tokens.items) c.if-text-gt-LONGEST_SOURCE.false c.in-Ok.ensures

pub returns-in-Err-Fault-clause-tokens : goal.returns-in-Err-Fault-clause-tokens
returns-in-Err-Fault-clause-tokens c =
    subst (λ r. Refuses r (λ outcome. outcome ≡ read_tokens c.args.text.now)) (sym c.fault-in-Err-Fault.ensures)
    (ap (λ k. Err (record { at = c.in-Err-Fault.field-0-0.at; kind = k })) c.of_lexing.ensures
    ∙ tokens_read c.args.text.now (Err c.in-Err-Fault.field-0-0) c.if-text-gt-LONGEST_SOURCE.false (subst (λ r. lexer.Refuses r (IsLexed c.args.text.now)) c.in-Err-Fault.field-0-is (subst (λ r. lexer.Answers (λ tokens. tokens.items) r (IsLexed c.args.text.now)) c.in-Err-Fault.is c.lex.ensures)))
