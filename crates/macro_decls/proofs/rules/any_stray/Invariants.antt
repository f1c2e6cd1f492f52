use Rattle.std.proofs.Common.{◌≡◌, drop, map}
use Rattle.macro_decls.specs.Arguments.{argument_seen}
use Rattle.macro_decls.specs.Rules.{any_stray}
use Rattle.macro_decls.proofs.rules.any_stray.Given as goal

abbrev pub invariant-arguments : goal.invariant-arguments
invariant-arguments l = any_stray (map argument_seen (drop l.argument-index l.arguments)) ≡ any_stray (map argument_seen l.arguments)
