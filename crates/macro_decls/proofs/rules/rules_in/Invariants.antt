use Rattle.std.proofs.Common.{◌≡◌, ◌++◌, drop, map, option_map}
use Rattle.macro_decls.specs.Arguments.{argument_seen}
use Rattle.macro_decls.specs.Rules.{rules_in}
use Rattle.macro_decls.proofs.rules.rules_in.Given as goal

abbrev pub invariant-arguments : goal.invariant-arguments
invariant-arguments l =
    option_map (λ more. l.rules.items ++ more) (rules_in l.text (map argument_seen (drop l.argument-index l.arguments)))
    ≡ rules_in l.text (map argument_seen l.arguments)
