-- How a text inside comments goes on.
use Rattle.std.proofs.Common.{◌≡◌, ℕ, zero, suc, ◌+◌, ◌-◌, ◌<◌, true, false, List, ◌∷◌, arith}
use Rattle.swift_lexer.specs.Texts.{ends_comment, opens_comment, after_comment}

pub comment_ends : (depth c d : ℕ) (cs : List ℕ) → 0 < depth → ends_comment c d ≡ true → after_comment depth (c ∷ d ∷ cs) ≡ after_comment (depth - 1) cs
comment_ends zero c d cs some is = absurd (omega arith)
comment_ends (suc depth) c d cs some is =
    let less : suc depth - 1 ≡ depth = omega arith in
    rw (is, less)

pub comment_opens : (depth c d : ℕ) (cs : List ℕ) → 0 < depth → ends_comment c d ≡ false → opens_comment c d ≡ true → after_comment depth (c ∷ d ∷ cs) ≡ after_comment (depth + 1) cs
comment_opens zero c d cs some not_end is = absurd (omega arith)
comment_opens (suc depth) c d cs some not_end is =
    let more : suc depth + 1 ≡ suc (suc depth) = omega arith in
    rw (not_end, is, more)

pub comment_goes_on : (depth c d : ℕ) (cs : List ℕ) → 0 < depth → ends_comment c d ≡ false → opens_comment c d ≡ false → after_comment depth (c ∷ d ∷ cs) ≡ after_comment depth (d ∷ cs)
comment_goes_on zero c d cs some not_end not_open = absurd (omega arith)
comment_goes_on (suc depth) c d cs some not_end not_open = rw (not_end, not_open)
