use Rattle.std.proofs.Common.{length}
use denote.Text.{Utf8}
use denote.Shadow.{shadow}
use Rattle.std.specs.Str.{chars}
use Rattle.swift_lexer.proofs.Underway.{Underway}
use Rattle.swift_lexer.proofs.reading.read_from.Given as goal

abbrev pub invariant-tokens : goal.invariant-tokens
invariant-tokens l = shadow (Utf8 l.rest) × Underway l.fn.bytes l.fn.total (chars l.fn.text) l.grouping l.trivia (chars l.rest)

abbrev pub decreases-tokens : goal.decreases-tokens
decreases-tokens l = length (chars l.rest)
