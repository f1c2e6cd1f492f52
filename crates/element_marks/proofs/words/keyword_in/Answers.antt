use Rattle.std.proofs.Common.{◌∙◌, ap, sym}
use Rattle.std.specs.Option.{option_copied, option_map_or}
use Rattle.element_marks.specs.declared.words.Keyword.TheVariants.{Plain}
use Rattle.element_marks.proofs.Rows.{keyword_in_find}
use Rattle.element_marks.proofs.words.keyword_in.Goals as goal

pub returns-in-Some : goal.returns-in-Some
returns-in-Some c =
    ap (λ o. option_map_or (λ row. row.1) (option_copied o) Plain) (sym c.in-Some.is)
    ∙ (ap (λ o. option_map_or (λ row. row.1) o Plain) c.row_of.ensures ∙ keyword_in_find (λ row. row.0.now) (λ row. row.1) c.args.rows.now c.args.word.now)

pub returns-in-None : goal.returns-in-None
returns-in-None c =
    ap (λ o. option_map_or (λ row. row.1) (option_copied o) Plain) (sym c.in-None.is)
    ∙ (ap (λ o. option_map_or (λ row. row.1) o Plain) c.row_of.ensures ∙ keyword_in_find (λ row. row.0.now) (λ row. row.1) c.args.rows.now c.args.word.now)
