use Rattle.std.proofs.Common.{is_ok, ap, refl}
use Rattle.std.proofs.ResultArms.{chosen}
use Rattle.swift_lexer.proofs.Standing.{Passes-leaf}
use Rattle.swift_lexer.proofs.grouping.take.Goals as goal

pub returns-in-LeftBracket : goal.returns-in-LeftBracket
returns-in-LeftBracket c = c.open_group.ensures c.args.text.now

pub returns-in_ok-push-in_default : goal.returns-in_ok-push-in_default
returns-in_ok-push-in_default c =
    let pushed = chosen _ _ _ _ c.push.ensures.items (ap is_ok c.in_ok-push-in_default.was) in
    Passes-leaf c.args.text.now c.args.token c.args.grouping.now _ _ refl pushed c.leaf_of.ensures c.in_default.not-LeftBracket c.in_default.not-RightBracket
