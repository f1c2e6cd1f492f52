-- Lines and columns from 1, as compilers print them: a line ends after LF, columns count bytes.
use Rattle.std.specs.Prelude.{ℕ, ◌+◌, ◌==◌, not, List, count_by}
use Rattle.std.specs.List.{suffix_len}

-- the byte LF, which ends a line
abbrev pub line_feed : ℕ
line_feed = 10

-- the line of what stands behind these bytes
abbrev pub line_behind : List ℕ → ℕ
line_behind before = count_by (λ b. b == line_feed) before + 1

-- its column: how many bytes at the end are no LF, and one
abbrev pub column_behind : List ℕ → ℕ
column_behind before = suffix_len (λ b. not (b == line_feed)) before + 1
