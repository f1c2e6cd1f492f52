use Rattle.std.proofs.Common.{◌∙◌, ap, sym, slice_range}
use Rattle.element_marks.specs.Words.{keyword_in}
use Rattle.element_marks.proofs.Rows.{keyword_between, keyword_paired, no_keyword, paired, paired_range, words}
use Rattle.element_marks.proofs.words.by_table.Goals as goal

pub returns-then-not-looks_like_keyword : goal.returns-then-not-looks_like_keyword
returns-then-not-looks_like_keyword c = sym (no_keyword c.args.word.now (sym c.if-not-looks_like_keyword.ensures))

pub returns : goal.returns
returns c =
    let word = c.args.word.now in
    c.keyword_in.ensures
    ∙ keyword_paired (λ row. row.0.now) (λ row. row.1) c.rows_between.result.now word
    ∙ ap (λ l. keyword_in (λ row. row.0) (λ row. row.1) l word) (ap (paired (λ row. row.0.now) (λ row. row.1)) c.rows_between.ensures ∙ paired_range (λ row. row.0.now) (λ row. row.1) _ c.rows_of-from.result.0 c.rows_of-from.result.1 ∙ ap (λ r. slice_range words r.0 r.1) c.rows_of-from.ensures)
    ∙ keyword_between word
