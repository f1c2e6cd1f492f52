-- What is written to the two streams. This project's own; the lines are those of compilers.
use Rattle.std.specs.Prelude.{ℕ, ◌==◌, ◌||◌, nat_lt, if◌then◌else◌, List, [], ◌++◌, map, take, decimal, codes}
use Rattle.swift_base.specs.Lines.{line_behind, column_behind}
use Rattle.expand_top.specs.declared.report.Output as code

-- what is written to standard output, to standard error, and the status
pub record Output : Type 0 where
  pub out : List ℕ
  pub err : List ℕ
  pub status : ℕ

-- control bytes are written as spaces
abbrev pub plain_byte : ℕ → ℕ
plain_byte b = if nat_lt b 32 || (b == 127) then 32 else b

abbrev pub plain : List ℕ → List ℕ
plain bytes = map plain_byte bytes

-- `name:line:column: error: text`
abbrev pub error_line : List ℕ → ℕ → ℕ → List ℕ → List ℕ
error_line name line column text =
    plain name ++ (codes ":" ++ (decimal line ++ (codes ":" ++ (decimal column ++ (codes ": error: " ++ (plain text ++ codes "\n"))))))

-- the line of an offset in a text
abbrev pub error_at : List ℕ → List ℕ → ℕ → List ℕ → List ℕ
error_at name text at message = error_line name (line_behind (take at text)) (column_behind (take at text)) message

abbrev pub prints : List ℕ → Output
prints bytes = record { out = bytes; err = []; status = 0 }

-- lines of faults, and nothing else
abbrev pub faults : List ℕ → Output
faults lines = record { out = []; err = lines; status = 1 }

abbrev pub refuses : List ℕ → ℕ → ℕ → List ℕ → Output
refuses name line column text = faults (error_line name line column text)

-- the refusal at an offset of a text
abbrev pub refuses_at : List ℕ → List ℕ → ℕ → List ℕ → Output
refuses_at name text at message = faults (error_at name text at message)

-- what is written where a file could not be read
abbrev pub unread : List ℕ → Output
unread name = record { out = []; err = name ++ codes ": the file could not be read\n"; status = 3 }

-- the code's output, apart from where it lies in memory
abbrev pub output_seen : code.Output → Output
output_seen output = record { out = output.out.items; err = output.err.items; status = output.status }
