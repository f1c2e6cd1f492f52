-- Readers, writers and files in memory, as plain data, and what each call makes of them. This project's own.
use Rattle.std.specs.Prelude.{ℕ, ◌+◌, ◌-◌, ◌^◌, ◌==◌, ◌&&◌, ◌||◌, min, max, nat_lt, nat_le, Bool, if◌then◌else◌, Option, Some, None, Result, Ok, Err, List, ◌++◌, length, take, drop, slice_get}
use Rattle.std.specs.List.{list_any}
use Rattle.swift_base.specs.declared.outside.ReadFault.{ReadFault}
use Rattle.swift_base.specs.declared.outside.WriteFault.{WriteFault}
use Rattle.swift_base.specs.declared.outside.ReadFault.TheVariants as read_fault
use Rattle.swift_base.specs.declared.outside.WriteFault.TheVariants as write_fault

-- a count, one higher, or at its end
abbrev pub raised : ℕ → ℕ
raised n = if nat_lt n (2 ^ 64 - 1) then n + 1 else n

-- a call is among those listed to fail
abbrev pub is_listed : List ℕ → ℕ → Bool
is_listed calls call = list_any (λ c. c == call) calls

-- A reader in memory: the bytes that it has left, the sizes of its pieces, the calls that fail.
pub record SourceState : Type 0 where
  pub left : List ℕ
  pub pieces : List ℕ
  pub failing : List ℕ
  pub calls : ℕ
  pub faults : ℕ
  pub ends : ℕ

-- at most a piece, of at least a byte; past the last piece all
abbrev pub at_most_piece : Option ℕ → ℕ → ℕ
at_most_piece None n = n
at_most_piece (Some piece) n = min (max piece 1) n

-- how many bytes a call gives
abbrev pub given_count : SourceState → ℕ → ℕ
given_count s room = at_most_piece (slice_get s.pieces s.calls) (min room (length s.left))

abbrev pub read_result : SourceState → ℕ → Result ℕ ReadFault
read_result s room = if is_listed s.failing s.calls then Err read_fault.Failed else Ok (given_count s room)

abbrev pub after_read : SourceState → ℕ → SourceState
after_read s room =
    if is_listed s.failing s.calls
    then record s { calls = raised s.calls; faults = raised s.faults }
    else record s {
      calls = raised s.calls;
      left = drop (given_count s room) s.left;
      ends = if nat_lt 0 room && (length s.left == 0) then raised s.ends else s.ends;
    }

-- A writer in memory: what it holds, for how much it has room, the calls that fail.
pub record SinkState : Type 0 where
  pub held : List ℕ
  pub room : ℕ
  pub failing : List ℕ
  pub calls : ℕ
  pub faults : ℕ
  pub closing : Option ℕ

-- listed, or no room for a piece that isn't empty
abbrev pub write_fails : SinkState → ℕ → Bool
write_fails s piece = is_listed s.failing s.calls || (nat_lt 0 piece && nat_le s.room (length s.held))

abbrev pub write_result : SinkState → ℕ → Result ℕ WriteFault
write_result s piece = if write_fails s piece then Err write_fault.Failed else Ok (min piece (s.room - length s.held))

-- the first call with the empty piece is kept
abbrev pub closing_after : Option ℕ → ℕ → ℕ → Option ℕ
closing_after (Some at) held piece = Some at
closing_after None held piece = if piece == 0 then Some held else None

abbrev pub after_write : SinkState → List ℕ → SinkState
after_write s piece =
    record s {
      calls = raised s.calls;
      closing = closing_after s.closing (length s.held) (length piece);
      faults = if write_fails s (length piece) then raised s.faults else s.faults;
      held = if write_fails s (length piece) then s.held else s.held ++ take (s.room - length s.held) piece;
    }
