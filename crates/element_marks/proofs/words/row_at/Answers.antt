use Rattle.std.proofs.Common.{[], ◌∙◌, ap, sym}
use Rattle.std.proofs.lemmas.List.{get_or-map}
use Rattle.element_marks.proofs.words.row_at.Goals as goal

pub returns-in-Some : goal.returns-in-Some
returns-in-Some c =
    let lent = c.in-Some.ensures.lookup in
    ap (λ row. row.now) lent.1 ∙ sym (get_or-map (λ row. row.now) c.args.rows.now c.args.place c.in-Some.row.now [] lent.3.0)
