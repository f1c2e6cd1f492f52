-- What cutting whole frames off bytes gives; this project's own.
use Rattle.std.specs.Prelude.{ℕ, ◌<◌, List, length, map}
use Rattle.std.specs.declared.vec.Vec.{Vec}
use Rattle.plugin_frames.specs.declared.cutting.Front.{Front}
use Rattle.plugin_frames.specs.declared.cutting.Front.TheVariants as front
use Rattle.plugin_frames.specs.declared.cutting.End.{End}
use Rattle.plugin_frames.specs.declared.cutting.End.TheVariants as end
use Rattle.plugin_frames.specs.Frames.{BeginsWithFrame, BeginsTooLong, IsUnfinished, Tail, Rest, Length}

-- what the bytes begin with
abbrev pub IsFront : List ℕ → Front → Type 0
IsFront bytes (front.Frame payload more) = BeginsWithFrame bytes payload.now more.now × (length more.now < length bytes)
IsFront bytes (front.TooLong len) = BeginsTooLong bytes len
IsFront bytes front.Unfinished = IsUnfinished bytes

-- what stands after the last whole frame, apart from where it lies in memory
abbrev pub tail_of : End → Tail
tail_of (end.Rest rest) = Rest rest.now
tail_of (end.Length len) = Length len

-- payloads, apart from where they lie in memory
abbrev pub payloads_of : {A : Type 0} → List (Vec ℕ A) → List (List ℕ)
payloads_of payloads = map (λ payload. payload.items) payloads
