-- What feeding a reader a piece does; this project's own.
use Rattle.std.specs.Prelude.{◌≡◌, ℕ, ◌<◌, List, ◌∷◌, ◌++◌, length, Result, Ok, Err}
use Rattle.std.specs.declared.vec.Vec.{Vec}
use Rattle.plugin_frames.specs.declared.refusal.FrameFault.{FrameFault}
use Rattle.plugin_frames.specs.declared.refusal.FrameFault.TheVariants as fault
use Rattle.plugin_frames.specs.declared.refusal.Refusal.{Refusal}
use Rattle.plugin_frames.specs.declared.refusal.Refusal.TheVariants.{Memory, Fault}
use Rattle.plugin_frames.specs.Cutting.{payloads_of}
use Rattle.plugin_frames.specs.Frames.{Tail, Rest, Length, IsFrames}

-- the bytes are the frames of the payloads that were appended, and then the tail
pub record Appends {A : Type 0} (bytes : List ℕ) (old new : List (Vec ℕ A)) (tail : Tail) : Type 0 where
  pub payloads : List (List ℕ)
  pub appended : payloads_of new ≡ payloads_of old ++ payloads
  pub frames : IsFrames bytes payloads tail

-- first the payload was appended, and then those of the bytes
pub record AppendsAfter {A : Type 0} (payload bytes : List ℕ) (old new : List (Vec ℕ A)) (tail : Tail) : Type 0 where
  pub payloads : List (List ℕ)
  pub appended : payloads_of new ≡ payloads_of old ++ payload ∷ payloads
  pub frames : IsFrames bytes payloads tail

-- The piece goes on from the rest that was held before: the two are the frames of the payloads that were appended,
-- and then what is held after.
pub record ReadsOn {A : Type 0} (before : Tail) (piece : List ℕ) (old new : List (Vec ℕ A)) (after : Tail) : Type 0 where
  pub rest : List ℕ
  pub held : before ≡ Rest rest
  pub read : Appends (rest ++ piece) old new after

-- and then a rest
abbrev pub LeavesRest : {A : Type 0} → Tail → List ℕ → List (Vec ℕ A) → List (Vec ℕ A) → Tail → Type 0
LeavesRest before piece old new after = (left : List ℕ) × (after ≡ Rest left) × ReadsOn before piece old new after

-- want of memory and a length that was met before change nothing, and the first comes only where none was met
abbrev pub Refuses : {A : Type 0} → Refusal FrameFault → Tail → List ℕ → List (Vec ℕ A) → List (Vec ℕ A) → Tail → Type 0
Refuses Memory before piece old new after = (rest : List ℕ) × (before ≡ Rest rest) × (after ≡ before) × (new ≡ old)
Refuses (Fault (fault.TooLong len)) before piece old new after = (after ≡ Length len) × ReadsOn before piece old new after
Refuses (Fault (fault.Dead len)) before piece old new after = (before ≡ Length len) × (after ≡ before) × (new ≡ old)

-- the fault, unless memory is wanting
abbrev pub IsFaultUnlessMemory : {T F : Type 0} → Result T (Refusal F) → F → Type 0
IsFaultUnlessMemory (Ok _) fault = ⊥
IsFaultUnlessMemory (Err Memory) fault = Unit {0}
IsFaultUnlessMemory (Err (Fault other)) fault = other ≡ fault

-- a frame has begun
abbrev pub IsWaiting : Tail → Type 0
IsWaiting (Rest rest) = 0 < length rest
IsWaiting (Length len) = ⊥
