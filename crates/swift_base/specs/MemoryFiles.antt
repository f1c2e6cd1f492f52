-- Files in memory, as plain data, and what each call makes of them. This project's own.
use Rattle.std.specs.Prelude.{ℕ, if◌then◌else◌, Option, None, is_none, List, [], ◌∷◌, ◌++◌, find, option_map}
use Rattle.std.specs.Str.{bytes_eq}
use Rattle.swift_base.specs.Memory.{raised, is_listed}

-- Files in memory: names with their bytes, the calls that fail, and the names asked for.
pub record FilesState : Type 0 where
  pub files : List (List ℕ × List ℕ)
  pub failing : List ℕ
  pub calls : ℕ
  pub faults : ℕ
  pub names : List (List ℕ)

-- the bytes under a name: those of the first file that has it
abbrev pub content_of : List (List ℕ × List ℕ) → List ℕ → Option (List ℕ)
content_of files name = option_map (λ file. file.1) (find (λ file. bytes_eq file.0 name) files)

-- what a read finds: none where the call is listed or the name is unknown
abbrev pub found_content : FilesState → List ℕ → Option (List ℕ)
found_content s name = if is_listed s.failing s.calls then None else content_of s.files name

-- a read that found memory
abbrev pub after_file : FilesState → List ℕ → FilesState
after_file s name = record s {
  calls = raised s.calls;
  faults = if is_none (found_content s name) then raised s.faults else s.faults;
  names = s.names ++ name ∷ [];
}
