use Rattle.std.proofs.Common.{◌≡◌, ◌∙◌, ◌<◌, ap, arith, drop, length, length-drop, reverse, sym}
use Rattle.element_marks.specs.Sorts.{is_use}
use Rattle.element_marks.specs.Uses.{call_length, closures_length}
use Rattle.element_marks.proofs.Ends.{first_behind, no_use, use_is}
use Rattle.element_marks.proofs.uses.use_length.Goals as goal

pub returns-then-not-first_use-clause-value : goal.returns-then-not-first_use-clause-value
returns-then-not-first_use-clause-value c = no_use c.args.blocks.starts.now (reverse c.args.before.now) c.args.marks.now (sym c.if-not-first_use.ensures)

pub returns-clause-value : goal.returns-clause-value
returns-clause-value c =
    let called : c.call_length-call.result ≡ call_length (drop 1 c.args.marks.now) = c.call_length-call.ensures.value ∙ ap call_length c.behind-name.ensures in
    let left : c.behind.result.now ≡ drop (call_length (drop 1 c.args.marks.now)) (drop 1 c.args.marks.now) =
    c.behind.ensures ∙ ap (drop c.call_length-call.result) c.behind-name.ensures ∙ ap (λ n. drop n (drop 1 c.args.marks.now)) called in
    let closures : c.closures_length.result ≡ closures_length c.args.blocks.starts.now (reverse c.args.before.now) (drop (call_length (drop 1 c.args.marks.now)) (drop 1 c.args.marks.now)) =
    c.closures_length.ensures.value ∙ ap (closures_length c.args.blocks.starts.now (reverse c.args.before.now)) left in
    omega (arith, called, closures, use_is c.args.blocks.starts.now (reverse c.args.before.now) c.args.marks.now (sym c.if-not-first_use.ensures))

pub returns-clause-bound : goal.returns-clause-bound
returns-clause-bound c =
    let some : 0 < length c.args.marks.now = first_behind is_use 0 c.args.marks.now (sym c.if-not-first_use.ensures) in
    omega (arith, some, c.call_length-call.ensures.bound, c.closures_length.ensures.bound, ap length c.behind.ensures, ap length c.behind-name.ensures, length-drop 1 c.args.marks.now, length-drop c.call_length-call.result c.behind-name.result.now)
