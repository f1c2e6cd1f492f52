use Rattle.std.proofs.Common.{◌≡◌, length}
use denote.Text.{Utf8}
use denote.Shadow.{shadow}
use Rattle.std.specs.Str.{chars}
use Rattle.swift_lexer.specs.Texts.{after_marks}
use Rattle.swift_lexer.proofs.texts.after_marks.Given as goal

abbrev pub invariant-marks : goal.invariant-marks
invariant-marks l = shadow (Utf8 l.rest) × (after_marks l.fn.mark l.left (chars l.rest) ≡ after_marks l.fn.mark l.fn.count (chars l.fn.text))

abbrev pub decreases-marks : goal.decreases-marks
decreases-marks l = length l.rest
