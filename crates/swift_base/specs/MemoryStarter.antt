-- Starters in memory, as plain data, and what each call makes of them. This project's own.
use Rattle.std.specs.Prelude.{ℕ, ◌||◌, ◌==◌, Bool, None, List, [], ◌∷◌, ◌++◌, length, drop, map}
use Rattle.swift_base.specs.Memory.{SinkState, SourceState, raised, is_listed}
use Rattle.swift_base.specs.Outside.{Commands}
use Rattle.swift_base.specs.declared.memory.script.MemScript.{MemScript}

-- A starter in memory: the links to come, the starts that fail, and the commands that it was given.
pub record StarterState : Type 0 where
  pub links : List MemScript
  pub failing : List ℕ
  pub calls : ℕ
  pub faults : ℕ
  pub started : List (List ℕ)
  pub failed : List (List ℕ)

-- the bytes of the links to come
abbrev pub links_of : List MemScript → List (List ℕ)
links_of scripts = map (λ script. script.gives) scripts

-- the commands that it was given
abbrev pub commands_of : StarterState → Commands
commands_of s = record { started = s.started; failed = s.failed }

-- a start fails where it is listed or no link is left
abbrev pub start_fails : StarterState → Bool
start_fails s = is_listed s.failing s.calls || (length s.links == 0)

abbrev pub after_failed_start : StarterState → List ℕ → StarterState
after_failed_start s command = record s {
  calls = raised s.calls;
  faults = raised s.faults;
  failed = s.failed ++ command ∷ [];
}

abbrev pub after_start : StarterState → List ℕ → StarterState
after_start s command = record s {
  links = drop 1 s.links;
  calls = raised s.calls;
  started = s.started ++ command ∷ [];
}

-- the two ends of a link that was just started
abbrev pub fresh_writer : MemScript → SinkState
fresh_writer script = record {
  held = [];
  room = script.room;
  failing = script.failing_writes;
  calls = 0;
  faults = 0;
  closing = None;
}

abbrev pub fresh_reader : MemScript → SourceState
fresh_reader script = record {
  left = script.gives;
  pieces = script.pieces;
  failing = script.failing_reads;
  calls = 0;
  faults = 0;
  ends = 0;
}
