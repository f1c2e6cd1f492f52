-- What holds of frames, whoever reads them.
use Rattle.std.specs.Prelude.{◌≡◌, ℕ, List, [], ◌∷◌, ◌++◌, All}
use Rattle.std.specs.List.{concat}
use Rattle.plugin_frames.specs.Frames.{frame_of, frames_of, Fits, Tail, Rest, Length, IsFrames}

-- each byte list has a reading
abbrev pub EachListIsFrames : Type 0
EachListIsFrames = (bytes : List ℕ) → (payloads : List (List ℕ)) × (tail : Tail) × IsFrames bytes payloads tail

-- and only one
abbrev pub OneReading : Type 0
OneReading = (bytes : List ℕ) (payloads others : List (List ℕ)) (tail other : Tail)
    → IsFrames bytes payloads tail → IsFrames bytes others other → (payloads ≡ others) × (tail ≡ other)

-- the frames of a rest and what follows go on from the frames before the rest
abbrev pub FramesGoOn : Type 0
FramesGoOn = (bytes more rest : List ℕ) (payloads later : List (List ℕ)) (tail : Tail)
    → IsFrames bytes payloads (Rest rest) → IsFrames (rest ++ more) later tail → IsFrames (bytes ++ more) (payloads ++ later) tail

-- after a length above the limit nothing is read
abbrev pub LengthStays : Type 0
LengthStays = (bytes more : List ℕ) (payloads : List (List ℕ)) (len : ℕ)
    → IsFrames bytes payloads (Length len) → IsFrames (bytes ++ more) payloads (Length len)

-- a rest has no frames of its own
abbrev pub RestIsUnfinished : Type 0
RestIsUnfinished = (bytes rest : List ℕ) (payloads : List (List ℕ))
    → IsFrames bytes payloads (Rest rest) → IsFrames rest [] (Rest rest)

-- What is read of pieces, one after another: each goes on from the rest of those before it, and nothing is read after
-- a length above the limit.
abbrev pub ReadsPieces : Tail → List (List ℕ) → List (List ℕ) → Tail → Type 0
ReadsPieces before [] payloads after = (payloads ≡ []) × (after ≡ before)
ReadsPieces (Rest rest) (piece ∷ pieces) payloads after =
    (now : List (List ℕ)) × (later : List (List ℕ)) × (between : Tail)
    × IsFrames (rest ++ piece) now between × ReadsPieces between pieces later after × (payloads ≡ now ++ later)
ReadsPieces (Length len) (piece ∷ pieces) payloads after = (payloads ≡ []) × (after ≡ Length len)

-- from the beginning that is what is read of the pieces joined, so it doesn't matter how they were cut
abbrev pub PiecesDoNotMatter : Type 0
PiecesDoNotMatter = (pieces payloads : List (List ℕ)) (tail : Tail)
    → ReadsPieces (Rest []) pieces payloads tail → IsFrames (concat pieces) payloads tail

-- no bytes are no frames
abbrev pub NoFrames : Type 0
NoFrames = IsFrames [] [] (Rest [])

-- what begins with a payload's frame is the payload, and then what follows
abbrev pub FrameComesFirst : Type 0
FrameComesFirst = (payload bytes : List ℕ) (payloads : List (List ℕ)) (tail : Tail)
    → Fits payload → IsFrames bytes payloads tail → IsFrames (frame_of payload ++ bytes) (payload ∷ payloads) tail

-- the same of frames, one after another
abbrev pub FramesComeFirst : Type 0
FramesComeFirst = (first : List (List ℕ)) (bytes : List ℕ) (payloads : List (List ℕ)) (tail : Tail)
    → All Fits first → IsFrames bytes payloads tail → IsFrames (frames_of first ++ bytes) (first ++ payloads) tail

-- and nothing else is read of them
abbrev pub FramesAreRead : Type 0
FramesAreRead = (first : List (List ℕ)) (bytes : List ℕ) (payloads : List (List ℕ)) (tail : Tail)
    → All Fits first → IsFrames (frames_of first ++ bytes) payloads tail
    → (later : List (List ℕ)) × (payloads ≡ first ++ later) × IsFrames bytes later tail

-- the frames of payloads and nothing more
abbrev pub FramesAlone : Type 0
FramesAlone = (payloads : List (List ℕ)) → All Fits payloads → IsFrames (frames_of payloads) payloads (Rest [])
