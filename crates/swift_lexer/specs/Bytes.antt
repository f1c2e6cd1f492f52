-- Brackets: this project's own table, after those of Swift.
use Rattle.std.specs.Prelude.{ℕ, Bool, ◌==◌, ◌&&◌}
use Rattle.std.specs.List.{list_any}
use Rattle.swift_lexer.specs.declared.bytes.TheConstants.{BRACKETS}

abbrev pub is_left_bracket : ℕ → Bool
is_left_bracket byte = list_any (λ pair. pair.0 == byte) BRACKETS

abbrev pub is_right_bracket : ℕ → Bool
is_right_bracket byte = list_any (λ pair. pair.1 == byte) BRACKETS

-- a left and a right bracket of one kind
abbrev pub is_bracket_pair : ℕ → ℕ → Bool
is_bracket_pair left right = list_any (λ pair. pair.0 == left && pair.1 == right) BRACKETS
