use Rattle.std.proofs.Common.{◌∙◌, ap, sym, subst, arith, if◌then◌else◌}
use Rattle.element_marks.specs.Heads.{head}
use Rattle.element_marks.specs.Passes.{HeadsKnown}
use Rattle.element_marks.proofs.Further.{further, further_some}
use Rattle.element_marks.proofs.Starting.{head_plain, head_step, known_later}
use Rattle.element_marks.proofs.heads.head.Goals as goal

pub returns-then-starts : goal.returns-then-starts
returns-then-starts c =
    ap (λ b. if b then 1 else 0) c.if-starts.ensures
    ∙ head_plain c.args.marks.now (sym c.if-prefix-eq0.true ∙ c.prefix_length-prefix.ensures.value)

pub returns-else-starts : goal.returns-else-starts
returns-else-starts c =
    ap (λ b. if b then 1 else 0) c.if-starts.ensures
    ∙ head_plain c.args.marks.now (sym c.if-prefix-eq0.true ∙ c.prefix_length-prefix.ensures.value)

pub known_head-later-requires : goal.known_head-later-requires
known_head-later-requires c =
    subst HeadsKnown (sym c.behind.ensures) (known_later c.prefix_length-prefix.result c.args.marks.now (omega (arith, c.if-prefix-eq0.false)) c.requires)

pub returns-then-later-eq0 : goal.returns-then-later-eq0
returns-then-later-eq0 c =
    ap (further c.prefix_length-prefix.result) (sym c.if-later-eq0.true ∙ c.known_head-later.ensures.value ∙ ap head c.behind.ensures)
    ∙ head_step c.args.marks.now c.prefix_length-prefix.result c.prefix_length-prefix.ensures.value (omega (arith, c.if-prefix-eq0.false))

pub returns-else-later-eq0 : goal.returns-else-later-eq0
returns-else-later-eq0 c =
    further_some c.prefix_length-prefix.result c.known_head-later.result (omega (arith, c.if-later-eq0.false))
    ∙ ap (further c.prefix_length-prefix.result) (c.known_head-later.ensures.value ∙ ap head c.behind.ensures)
    ∙ head_step c.args.marks.now c.prefix_length-prefix.result c.prefix_length-prefix.ensures.value (omega (arith, c.if-prefix-eq0.false))
