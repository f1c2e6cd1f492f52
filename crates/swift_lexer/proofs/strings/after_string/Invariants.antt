use Rattle.std.proofs.Common.{length}
use denote.Text.{Utf8}
use denote.Shadow.{shadow}
use Rattle.std.specs.Str.{chars}
use Rattle.swift_lexer.specs.declared.strings.Open.TheVariants.{InString}
use Rattle.swift_lexer.proofs.Unfinished.{Unfinished}
use Rattle.swift_lexer.proofs.strings.after_string.Given as goal

abbrev pub invariant-steps : goal.invariant-steps
invariant-steps l = shadow (Utf8 l.rest) × Unfinished l.fn.total (InString l.fn.quotes) l.fn.start (chars l.fn.inside) l.around.items l.level (chars l.rest)

abbrev pub decreases-steps : goal.decreases-steps
decreases-steps l = length (chars l.rest)
