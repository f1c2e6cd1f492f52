use Rattle.std.proofs.Common.{◌≡◌, length}
use denote.Text.{Utf8}
use denote.Shadow.{shadow}
use Rattle.std.specs.Str.{chars}
use Rattle.swift_lexer.specs.Chars.{operator_part}
use Rattle.swift_lexer.specs.Texts.{after_operator}
use Rattle.swift_lexer.proofs.texts.after_operator.Given as goal

abbrev pub invariant-run : goal.invariant-run
invariant-run l = shadow (Utf8 l.rest) × (after_operator (operator_part l.fn.dots) (chars l.rest) ≡ after_operator (operator_part l.fn.dots) (chars l.fn.text))

abbrev pub decreases-run : goal.decreases-run
decreases-run l = length l.rest
