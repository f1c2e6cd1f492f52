-- What a reader holds, apart from where it lies in memory.
use Rattle.std.specs.Prelude.{List, ℕ, Option, Some, None}
use Rattle.plugin_frames.specs.declared.reader.Held.{Held}
use Rattle.plugin_frames.specs.declared.reader.Held.TheVariants as held
use Rattle.plugin_frames.specs.Frames.{Tail, Rest, Length, IsUnfinished}

abbrev pub tail_held : Held → Tail
tail_held (held.Rest rest) = Rest rest.items
tail_held (held.Length len) = Length len

-- a rest has less than a frame
abbrev pub IsOpen : Held → Type 0
IsOpen (held.Rest rest) = IsUnfinished rest.items
IsOpen (held.Length len) = Unit {0}

-- what is held after a piece: the rest grew, or it is something new
abbrev pub tail_after : Option Held → List ℕ → Tail
tail_after None rest = Rest rest
tail_after (Some held) rest = tail_held held
