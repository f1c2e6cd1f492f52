-- The laws of frames.
use Rattle.std.proofs.Common.{◌≡◌, ℕ, zero, suc, ◌+◌, ◌≤◌, List, [], ◌∷◌, ◌++◌, length, take, drop, refl, sym, ap, subst, ◌∙◌, append_assoc, arith, inl, inr}
use Rattle.std.specs.List.{AllByRecursion, concat}
use Rattle.std.proofs.lemmas.Bool.{cases_lt}
use Rattle.std.proofs.lemmas.List.{length-drop, append-nil}
use Rattle.std.proofs.lemmas.List.Elements.{recursion_from_All}
use Rattle.plugin_frames.specs.Frames.{largest_payload, spelled, frame_of, frames_of, Fits, IsUnfinished, Tail, Rest, Length, IsFrames, unfinished, too_long, frame}
use Rattle.plugin_frames.proofs.Beginnings.{BeginsWithFrame-at, BeginsTooLong-at, IsUnfinished-header, IsUnfinished-payload, one_frame, one_length, no_frame_too_long, BeginsWithFrame-append, BeginsTooLong-append, BeginsWithFrame-frame_of}
use Rattle.plugin_frames.specs.Laws.{EachListIsFrames, OneReading, FramesGoOn, LengthStays, RestIsUnfinished, ReadsPieces, PiecesDoNotMatter, NoFrames, FrameComesFirst, FramesComeFirst, FramesAreRead, FramesAlone}

-- ---- each byte list has a reading

abbrev Reading : List ℕ → Type 0
Reading bytes = (payloads : List (List ℕ)) × (tail : Tail) × IsFrames bytes payloads tail

-- of bytes that have a header
read_header : (most : ℕ) (bytes : List ℕ) → length bytes ≤ suc most → 8 ≤ length bytes → (len : ℕ) → spelled (take 8 bytes) ≡ len
    → ((rest : List ℕ) → length rest ≤ most → Reading rest) → Reading bytes
read_header most bytes within enough len spells later =
    elim (cases_lt largest_payload len) [
      | inl above ↦ ([], Length len, too_long bytes len (BeginsTooLong-at bytes len spells above enough))
      | inr fits ↦ elim (cases_lt (length bytes) (8 + len)) [
        | inl short ↦ ([], Rest bytes, unfinished bytes (IsUnfinished-payload bytes len spells fits short))
        | inr whole ↦
            let payload = take len (drop 8 bytes) in
            let rest = drop len (drop 8 bytes) in
            let r = later rest (omega (arith, length-drop len (drop 8 bytes), length-drop 8 bytes)) in
            (payload ∷ r.0, r.1, frame bytes payload rest r.0 r.1 (BeginsWithFrame-at bytes len spells fits whole) r.2)
      ]
    ]

frames_within : (most : ℕ) (bytes : List ℕ) → length bytes ≤ most → Reading bytes
frames_within zero bytes within = ([], Rest bytes, unfinished bytes (IsUnfinished-header bytes (omega arith)))
frames_within (suc most) bytes within =
    elim (cases_lt (length bytes) 8) [
      | inl short ↦ ([], Rest bytes, unfinished bytes (IsUnfinished-header bytes short))
      | inr enough ↦ read_header most bytes within enough (spelled (take 8 bytes)) refl (λ rest h. frames_within most rest h)
    ]

pub each_list_is_frames : EachListIsFrames
each_list_is_frames bytes = frames_within (length bytes) bytes (omega arith)

-- ---- and only one

pub one_reading : OneReading
one_reading bytes payloads others tail other (unfinished _ u) (unfinished _ v) = (refl, refl)
one_reading bytes payloads others tail other (unfinished _ u) (too_long _ len c) = absurd (u.no_length len c)
one_reading bytes payloads others tail other (unfinished _ u) (frame _ second behind _ _ c g) = absurd (u.no_frame second behind c)
one_reading bytes payloads others tail other (too_long _ len b) (unfinished _ v) = absurd (v.no_length len b)
one_reading bytes payloads others tail other (too_long _ len b) (too_long _ longer c) = (refl, ap Length (one_length bytes len longer b c))
one_reading bytes payloads others tail other (too_long _ len b) (frame _ second behind _ _ c g) = absurd (no_frame_too_long bytes second behind len c b)
one_reading bytes payloads others tail other (frame _ first more _ _ b f) (unfinished _ v) = absurd (v.no_frame first more b)
one_reading bytes payloads others tail other (frame _ first more _ _ b f) (too_long _ longer c) = absurd (no_frame_too_long bytes first more longer b c)
one_reading bytes payloads others tail other (frame _ first more later _ b f) (frame _ second behind further _ c g) =
    let same = one_frame bytes first more second behind b c in
    let P : List ℕ → Type 0 = λ xs. IsFrames xs further other in
    let rest = one_reading more later further tail other f (subst P (sym same.1) g) in
    (ap (λ p. p ∷ later) same.0 ∙ ap (λ ps. second ∷ ps) rest.0, rest.1)

-- ---- what follows

go_on : (bytes more : List ℕ) (payloads : List (List ℕ)) (middle : Tail) → IsFrames bytes payloads middle
    → (rest : List ℕ) (later : List (List ℕ)) (tail : Tail) → middle ≡ Rest rest → IsFrames (rest ++ more) later tail → IsFrames (bytes ++ more) (payloads ++ later) tail
go_on bytes more payloads middle (unfinished _ u) rest later tail e g =
    let same : bytes ≡ rest = cc in
    let P : List ℕ → Type 0 = λ xs. IsFrames (xs ++ more) later tail in
    subst P (sym same) g
go_on bytes more payloads middle (too_long _ len b) rest later tail e g = absurd cc
go_on bytes more payloads middle (frame _ payload behind further _ b f) rest later tail e g =
    frame (bytes ++ more) payload (behind ++ more) (further ++ later) tail (BeginsWithFrame-append bytes payload behind more b)
    (go_on behind more further middle f rest later tail e g)

pub frames_go_on : FramesGoOn
frames_go_on bytes more rest payloads later tail f g = go_on bytes more payloads (Rest rest) f rest later tail refl g

stays : (bytes more : List ℕ) (payloads : List (List ℕ)) (tail : Tail) → IsFrames bytes payloads tail
    → (len : ℕ) → tail ≡ Length len → IsFrames (bytes ++ more) payloads (Length len)
stays bytes more payloads tail (unfinished _ u) len e = absurd cc
stays bytes more payloads tail (too_long _ longer b) len e =
    let same : longer ≡ len = cc in
    let P : ℕ → Type 0 = λ n. IsFrames (bytes ++ more) [] (Length n) in
    subst P same (too_long (bytes ++ more) longer (BeginsTooLong-append bytes more longer b))
stays bytes more payloads tail (frame _ payload behind later _ b f) len e =
    frame (bytes ++ more) payload (behind ++ more) later (Length len) (BeginsWithFrame-append bytes payload behind more b) (stays behind more later tail f len e)

pub length_stays : LengthStays
length_stays bytes more payloads len f = stays bytes more payloads (Length len) f len refl

pub unfinished_tail : (bytes : List ℕ) (payloads : List (List ℕ)) (tail : Tail) → IsFrames bytes payloads tail → (rest : List ℕ) → tail ≡ Rest rest → IsUnfinished rest
unfinished_tail bytes payloads tail (unfinished _ u) rest e =
    let same : bytes ≡ rest = cc in
    subst IsUnfinished same u
unfinished_tail bytes payloads tail (too_long _ len b) rest e = absurd cc
unfinished_tail bytes payloads tail (frame _ payload behind later _ b f) rest e = unfinished_tail behind later tail f rest e

pub rest_is_unfinished : RestIsUnfinished
rest_is_unfinished bytes rest payloads f = unfinished rest (unfinished_tail bytes payloads (Rest rest) f rest refl)

-- ---- pieces

reads_nothing : (pieces payloads : List (List ℕ)) (len : ℕ) (tail : Tail) → ReadsPieces (Length len) pieces payloads tail → (payloads ≡ []) × (tail ≡ Length len)
reads_nothing [] payloads len tail r = r
reads_nothing (piece ∷ pieces) payloads len tail r = r

-- from what one piece gave to what all give
read_more : (whole : List ℕ) (pieces now later : List (List ℕ)) (between tail : Tail) → IsFrames whole now between → ReadsPieces between pieces later tail
    → ((rest : List ℕ) → IsFrames rest [] (Rest rest) → ReadsPieces (Rest rest) pieces later tail → IsFrames (rest ++ concat pieces) later tail)
    → IsFrames (whole ++ concat pieces) (now ++ later) tail
read_more whole pieces now later (Rest rest) tail f r each =
    frames_go_on whole (concat pieces) rest now later tail f (each rest (rest_is_unfinished whole rest now f) r)
read_more whole pieces now later (Length len) tail f r each =
    let none = reads_nothing pieces later len tail r in
    rw (none.0, none.1, append-nil) (length_stays whole (concat pieces) now len f)

read_pieces : (pieces payloads : List (List ℕ)) (tail : Tail) (rest : List ℕ)
    → IsFrames rest [] (Rest rest) → ReadsPieces (Rest rest) pieces payloads tail → IsFrames (rest ++ concat pieces) payloads tail
read_pieces [] payloads tail rest u r = rw (r.0, r.1, append-nil) u
read_pieces (piece ∷ pieces) payloads tail rest u (now, later, between, f, r, all) =
    rw (all, ← append_assoc rest piece (concat pieces))
    (read_more (rest ++ piece) pieces now later between tail f r (λ xs v g. read_pieces pieces later tail xs v g))

pub pieces_do_not_matter : PiecesDoNotMatter
pieces_do_not_matter pieces payloads tail r = read_pieces pieces payloads tail [] (unfinished [] (IsUnfinished-header [] (omega arith))) r

-- ---- frames that were written

pub no_frames : NoFrames
no_frames = unfinished [] (IsUnfinished-header [] (omega arith))

pub frame_comes_first : FrameComesFirst
frame_comes_first payload bytes payloads tail fits f =
    frame (frame_of payload ++ bytes) payload bytes payloads tail (BeginsWithFrame-frame_of payload bytes fits) f

frames_come_first_each : (first : List (List ℕ)) (bytes : List ℕ) (payloads : List (List ℕ)) (tail : Tail)
    → AllByRecursion Fits first → IsFrames bytes payloads tail → IsFrames (frames_of first ++ bytes) (first ++ payloads) tail
frames_come_first_each [] bytes payloads tail fit f = f
frames_come_first_each (payload ∷ first) bytes payloads tail fit f =
    rw (append_assoc (frame_of payload) (frames_of first) bytes)
    (frame_comes_first payload (frames_of first ++ bytes) (first ++ payloads) tail fit.0 (frames_come_first_each first bytes payloads tail fit.1 f))

pub frames_come_first : FramesComeFirst
frames_come_first first bytes payloads tail fit f = frames_come_first_each first bytes payloads tail (recursion_from_All Fits first fit) f

pub frames_are_read : FramesAreRead
frames_are_read first bytes payloads tail fits f =
    let later = each_list_is_frames bytes in
    let whole = frames_come_first first bytes later.0 later.1 fits later.2 in
    let same = one_reading (frames_of first ++ bytes) payloads (first ++ later.0) tail later.1 f whole in
    let P : Tail → Type 0 = λ t. IsFrames bytes later.0 t in
    (later.0, same.0, subst P (sym same.1) later.2)

pub frames_alone : FramesAlone
frames_alone payloads fits =
    let f = frames_come_first payloads [] [] (Rest []) fits no_frames in
    rw (append-nil, append-nil) at f
