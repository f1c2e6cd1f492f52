use Rattle.std.proofs.Common.{◌≡◌, ◌+◌, ◌≤◌, ◌^◌, length}
use denote.Text.{Utf8}
use denote.Shadow.{shadow}
use Rattle.std.specs.Str.{chars}
use Rattle.swift_lexer.specs.Texts.{after_comment}
use Rattle.swift_lexer.proofs.texts.after_comment.Given as goal

abbrev pub invariant-comment : goal.invariant-comment
invariant-comment l = shadow (Utf8 l.rest) × (after_comment l.depth (chars l.rest) ≡ after_comment 1 (chars l.fn.text)) × (l.depth + length l.rest ≤ 2 ^ 64)

abbrev pub decreases-comment : goal.decreases-comment
decreases-comment l = length l.rest
