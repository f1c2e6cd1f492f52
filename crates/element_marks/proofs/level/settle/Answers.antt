use Rattle.std.proofs.Common.{◌-◌, ◌∙◌, ◌∷◌, ap, sym, suc, drop, get_or}
use Rattle.element_marks.proofs.Backward.{blank}
use Rattle.element_marks.proofs.Settling.{nothing_settled, placed, starter_settled}
use Rattle.element_marks.proofs.level.settle.Goals as goal

pub returns-then-begins_nothing : goal.returns-then-begins_nothing
returns-then-begins_nothing c =
    let behind = drop (suc c.args.at) c.args.marks.now in
    placed (c.args.end - c.args.at) c.args.at c.args.marks.now c.set_alone.new.mark c.requires.within
    (nothing_settled (c.args.end - c.args.at) (get_or c.args.marks.now c.args.at blank) behind (sym c.begins_nothing.ensures ∙ c.if-begins_nothing.true)
    ∙ ap (λ mark. mark ∷ behind) (sym c.set_alone.ensures))

pub returns-then-begins_alone : goal.returns-then-begins_alone
returns-then-begins_alone c =
    let behind = drop (suc c.args.at) c.args.marks.now in
    placed (c.args.end - c.args.at) c.args.at c.args.marks.now c.set_alone-then-begins_alone.new.mark c.requires.within
    (starter_settled (c.args.end - c.args.at) (get_or c.args.marks.now c.args.at blank) behind (sym c.begins_alone.ensures ∙ c.if-begins_alone.true)
    ∙ ap (λ mark. mark ∷ behind) (sym c.set_alone-then-begins_alone.ensures))
