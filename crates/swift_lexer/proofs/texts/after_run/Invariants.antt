use Rattle.std.proofs.Common.{◌≡◌, length}
use denote.Text.{Utf8}
use denote.Shadow.{shadow}
use Rattle.std.specs.Str.{chars}
use Rattle.swift_lexer.specs.Chars.{goes_on}
use Rattle.swift_lexer.specs.Texts.{after_run}
use Rattle.swift_lexer.proofs.texts.after_run.Given as goal

abbrev pub invariant-run : goal.invariant-run
invariant-run l = shadow (Utf8 l.rest) × (after_run (goes_on l.fn.run) (chars l.rest) ≡ after_run (goes_on l.fn.run) (chars l.fn.text))

abbrev pub decreases-run : goal.decreases-run
decreases-run l = length l.rest
