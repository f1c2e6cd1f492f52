use Rattle.std.proofs.Common.{◌≡◌, ◌++◌, drop, map}
use Rattle.macro_decls.specs.Arguments.{argument_seen}
use Rattle.macro_decls.specs.Rules.{conformances_listed}
use Rattle.macro_decls.proofs.rules.conformances_listed.Given as goal

abbrev pub invariant-arguments : goal.invariant-arguments
invariant-arguments l =
    l.types.items ++ conformances_listed l.text (map argument_seen (drop l.argument-index l.arguments)) ≡ conformances_listed l.text (map argument_seen l.arguments)
