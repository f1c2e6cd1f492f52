use Rattle.std.proofs.Common.{◌≡◌, ◌-◌, ◌≤◌, ap, sym, arith, subst, drop, length, IfOk}
use Rattle.std.proofs.lemmas.List.{length-drop}
use Rattle.element_marks.proofs.Quieter.{Quiet}
use Rattle.decl_parser.specs.Found.{seen}
use Rattle.decl_parser.proofs.QuietGroups.{quiet_from, quiet_none}
use Rattle.decl_parser.proofs.found.found.Goals as goal

pub returns-then-not-begins_any : goal.returns-then-not-begins_any
returns-then-not-begins_any c =
    let search = c.args.search in
    let list = c.args.search.list.now in
    let insides = c.args.search.insides.now in
    let marks : c.behind-marks.result.now ≡ drop c.args.search.from list = c.behind-marks.ensures in
    let quiet : Quiet (drop c.args.search.from list) = subst Quiet marks (quiet_none c.behind-marks.result.now (sym c.if-not-begins_any.ensures)) in
    let fits : length insides ≤ length list - c.args.search.from = omega (arith, c.if-search-marks.true, ap length marks, length-drop c.args.search.from list) in
    subst (λ x. IfOk c.all_within.result (λ findings. seen findings ≡ x)) (sym (quiet_from search.blocks.starts.now search.own list search.from (length list - search.from) insides quiet fits)) c.all_within.ensures
