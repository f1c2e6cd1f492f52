use Rattle.std.proofs.Common.{◌≡◌, ◌∷◌, ap, sym, ◌∙◌}
use Rattle.std.specs.Str.{chars}
use Rattle.swift_lexer.specs.Texts.{after_comment}
use Rattle.swift_lexer.proofs.Comments.{comment_ends, comment_opens, comment_goes_on}
use Rattle.swift_lexer.proofs.texts.comment_step.Goals as goal

pub returns-then-ends_comment-clause-value : goal.returns-then-ends_comment-clause-value
returns-then-ends_comment-clause-value c =
    let after : chars c.in_ok-c.after.now ≡ c.in_ok-d.d ∷ chars c.in_ok-d.behind.now = c.in_ok-d.ensures.split in
    ap (after_comment c.args.depth) (c.in_ok-c.ensures.split ∙ ap (λ l. c.in_ok-c.c ∷ l) after)
    ∙ comment_ends c.args.depth c.in_ok-c.c c.in_ok-d.d (chars c.in_ok-d.behind.now) c.requires.inside (sym c.ends_comment.ensures ∙ c.if-ends_comment.true)

pub returns-then-opens_comment-clause-value : goal.returns-then-opens_comment-clause-value
returns-then-opens_comment-clause-value c =
    ap (after_comment c.args.depth) (c.in_ok-c.ensures.split ∙ ap (λ l. c.in_ok-c.c ∷ l) c.in_ok-d.ensures.split)
    ∙ comment_opens c.args.depth c.in_ok-c.c c.in_ok-d.d (chars c.in_ok-d.behind.now) c.requires.inside (sym c.ends_comment.ensures ∙ c.if-ends_comment.false) (sym c.opens_comment.ensures ∙ c.if-opens_comment.true)

pub returns-clause-value : goal.returns-clause-value
returns-clause-value c =
    ap (after_comment c.args.depth) (c.in_ok-c.ensures.split ∙ ap (λ l. c.in_ok-c.c ∷ l) c.in_ok-d.ensures.split)
    ∙ comment_goes_on c.args.depth c.in_ok-c.c c.in_ok-d.d (chars c.in_ok-d.behind.now) c.requires.inside (sym c.ends_comment.ensures ∙ c.if-ends_comment.false) (sym c.opens_comment.ensures ∙ c.if-opens_comment.false)
    ∙ ap (after_comment c.args.depth) (sym c.in_ok-d.ensures.split)
