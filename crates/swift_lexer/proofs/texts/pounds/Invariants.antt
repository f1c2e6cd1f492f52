use Rattle.std.proofs.Common.{◌≡◌, ◌+◌, ◌≤◌, length}
use denote.Text.{Utf8}
use denote.Shadow.{shadow}
use Rattle.std.specs.Str.{chars}
use Rattle.std.proofs.Common.{◌==◌}
use Rattle.swift_lexer.specs.declared.chars.TheConstants.{POUND}
use Rattle.swift_lexer.specs.Texts.{after_run, pounds}
use Rattle.swift_lexer.proofs.texts.pounds.Given as goal

abbrev pub invariant-pounds : goal.invariant-pounds
invariant-pounds l = shadow (Utf8 l.rest) × (l.count + pounds (chars l.rest) ≡ pounds (chars l.fn.text)) × (after_run (λ c. c == POUND) (chars l.rest) ≡ after_run (λ c. c == POUND) (chars l.fn.text)) × (l.count + length l.rest ≤ length l.fn.text)

abbrev pub decreases-pounds : goal.decreases-pounds
decreases-pounds l = length l.rest
