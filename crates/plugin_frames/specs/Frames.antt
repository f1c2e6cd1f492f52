-- How payloads stand on a stream.
-- swift-syntax, SwiftCompilerPluginMessageHandling: before each message its length, eight bytes, the lowest first.
-- That a length above 16,777,216 ends the reading is this project's own.
use Rattle.std.specs.Prelude.{◌≡◌, ℕ, ◌<◌, ◌≤◌, List, [], ◌∷◌, ◌++◌, length}
use Rattle.std.specs.List.{flat_map}
use Rattle.std.specs.Int.{w64, to_le_bytes, from_le_bytes}

-- the eight bytes that spell a length
unfoldable pub header_of : ℕ → List ℕ
header_of len = to_le_bytes w64 len

-- the number that eight bytes spell
unfoldable pub spelled : List ℕ → ℕ
spelled head = from_le_bytes w64 head

-- the frame of a payload
unfoldable pub frame_of : List ℕ → List ℕ
frame_of payload = header_of (length payload) ++ payload

-- the frames of payloads, one after another
abbrev pub frames_of : List (List ℕ) → List ℕ
frames_of payloads = flat_map frame_of payloads

-- how many bytes a payload has at most
abbrev pub largest_payload : ℕ
largest_payload = 16777216

-- a payload that a reader takes
abbrev pub Fits : List ℕ → Type 0
Fits payload = length payload ≤ largest_payload

-- the bytes begin with eight bytes that spell the number, and then there is more
pub record BeginsWith (bytes : List ℕ) (number : ℕ) (more : List ℕ) : Type 0 where
  pub head : List ℕ
  pub eight : length head ≡ 8
  pub spells : spelled head ≡ number
  pub whole : bytes ≡ head ++ more

-- the bytes begin with the frame of the payload, and then there is more
pub record BeginsWithFrame (bytes payload more : List ℕ) : Type 0 where
  pub fits : Fits payload
  pub begins : BeginsWith bytes (length payload) (payload ++ more)

-- the bytes begin with a length above the limit
pub record BeginsTooLong (bytes : List ℕ) (len : ℕ) : Type 0 where
  pub above : largest_payload < len
  pub more : List ℕ
  pub begins : BeginsWith bytes len more

-- the bytes begin neither with a whole frame nor with a length above the limit
pub record IsUnfinished (bytes : List ℕ) : Type 0 where
  pub no_frame : (payload more : List ℕ) → ¬ BeginsWithFrame bytes payload more
  pub no_length : (len : ℕ) → ¬ BeginsTooLong bytes len

-- what stands after the last whole frame: less than a frame, or a length above the limit
pub data Tail : Type 0 where
  Rest : List ℕ → Tail
  Length : ℕ → Tail

-- the bytes are the frames of these payloads, in their order, and then this tail
pub data IsFrames : List ℕ → List (List ℕ) → Tail → Type 0 where
  unfinished : (bytes : List ℕ) → IsUnfinished bytes → IsFrames bytes [] (Rest bytes)
  too_long : (bytes : List ℕ) (len : ℕ) → BeginsTooLong bytes len → IsFrames bytes [] (Length len)
  frame : (bytes payload more : List ℕ) (payloads : List (List ℕ)) (tail : Tail)
      → BeginsWithFrame bytes payload more → IsFrames more payloads tail → IsFrames bytes (payload ∷ payloads) tail
