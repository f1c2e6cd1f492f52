use Rattle.std.proofs.Common.{◌≡◌, length}
use denote.Text.{Utf8}
use denote.Shadow.{shadow}
use Rattle.std.specs.Str.{chars}
use Rattle.swift_lexer.specs.Strings.{begins_word}
use Rattle.swift_lexer.proofs.strings.begins_word.Given as goal

abbrev pub invariant-word : goal.invariant-word
invariant-word l = shadow (Utf8 l.rest) × (begins_word l.left (chars l.rest) ≡ begins_word l.fn.word (chars l.fn.text))

abbrev pub decreases-word : goal.decreases-word
decreases-word l = length l.rest
