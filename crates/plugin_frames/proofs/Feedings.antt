-- What a piece appends, from what has come of the frame that is begun.
use Rattle.std.proofs.Common.{◌≡◌, ℕ, ◌+◌, ◌<◌, ◌≤◌, List, [], ◌∷◌, ◌++◌, length, take, drop, refl, sym, ap, subst, ◌∙◌, append_assoc, arith, inl, inr, length-append}
use Rattle.std.proofs.lemmas.Bool.{cases_lt}
use Rattle.std.proofs.lemmas.List.{append-nil, take-append-drop, take-append-le, length-take-le}
use Rattle.std.specs.declared.vec.Vec.{Vec}
use Rattle.plugin_frames.specs.Frames.{largest_payload, spelled, BeginsWithFrame, BeginsTooLong, IsUnfinished, Tail, Rest, Length, IsFrames, unfinished, too_long, frame}
use Rattle.plugin_frames.specs.Cutting.{payloads_of}
use Rattle.plugin_frames.specs.Feeding.{Appends, AppendsAfter, ReadsOn}
use Rattle.plugin_frames.proofs.Beginnings.{BeginsWithFrame-at, BeginsTooLong-at, BeginsTooLong-append, IsUnfinished-header, IsUnfinished-payload}
use Rattle.plugin_frames.proofs.Readings.{one_reading, unfinished_tail, frames_go_on}

-- ---- a frame that is begun

-- `held` has a whole header, and `behind` comes next
pub record IsBegun (bytes held behind begun : List ℕ) (len : ℕ) : Type 0 where
  pub whole : held ++ behind ≡ bytes
  pub spells : spelled (take 8 held) ≡ len
  pub after : begun ≡ drop 8 held
  pub enough : length begun + 8 ≡ length held

pub IsBegun-of : (bytes held behind seen header begun : List ℕ) (len : ℕ) → held ++ behind ≡ bytes → seen ≡ held
    → header ≡ take 8 seen → begun ≡ drop 8 seen → length begun + 8 ≡ length seen → len ≡ spelled header → IsBegun bytes held behind begun len
IsBegun-of bytes held behind seen header begun len whole same front back enough spells = record {
  whole = whole;
  spells = ap (λ xs. spelled (take 8 xs)) (sym same) ∙ ap spelled (sym front) ∙ sym spells;
  after = back ∙ ap (λ xs. drop 8 xs) same;
  enough = enough ∙ ap length same;
}

-- an unfinished rest has less than its header says
pub begun_within : (bytes held behind begun rest : List ℕ) (len : ℕ) → IsBegun bytes held behind begun len → IsUnfinished rest
    → (8 < length held → held ≡ rest) → len ≤ largest_payload → length begun ≤ len
begun_within bytes held behind begun rest len b u same fits =
    elim (cases_lt len (length begun)) [
      | inl more ↦
          let is : held ≡ rest = same (omega (arith, b.enough)) in
          absurd ((subst IsUnfinished (sym is) u).no_frame _ _ (BeginsWithFrame-at held len b.spells fits (omega (arith, b.enough))))
      | inr le ↦ le
    ]

module _ {A : Type 0} where
  -- nothing is appended
  Appends-none : (bytes : List ℕ) (out : List (Vec ℕ A)) (tail : Tail) → IsFrames bytes [] tail → Appends bytes out out tail
  Appends-none bytes out tail f = record { payloads = []; appended = sym (append-nil (payloads_of out)); frames = f }

  rest_grows : (bytes grown : List ℕ) (out : List (Vec ℕ A)) → grown ≡ bytes → IsUnfinished grown → Appends bytes out out (Rest grown)
  rest_grows bytes grown out same u =
      let P : List ℕ → Type 0 = λ xs. IsFrames xs [] (Rest grown) in
      Appends-none bytes out (Rest grown) (subst P same (unfinished grown u))

  -- the header isn't whole
  pub Appends-header : (bytes held behind : List ℕ) (out : List (Vec ℕ A)) → held ++ behind ≡ bytes → length held < 8 → (length held < 8 → behind ≡ []) → Appends bytes out out (Rest held)
  Appends-header bytes held behind out whole short none =
      let same : held ≡ bytes = sym (append-nil held) ∙ ap (λ xs. held ++ xs) (sym (none short)) ∙ whole in
      rest_grows bytes held out same (IsUnfinished-header held short)

  -- the header spells a length above the limit
  pub Appends-length : (bytes held behind begun : List ℕ) (len : ℕ) (out : List (Vec ℕ A)) → IsBegun bytes held behind begun len → largest_payload < len → Appends bytes out out (Length len)
  Appends-length bytes held behind begun len out b above =
      let begins = BeginsTooLong-append held behind len (BeginsTooLong-at held len b.spells above (omega (arith, b.enough))) in
      let P : List ℕ → Type 0 = λ xs. BeginsTooLong xs len in
      Appends-none bytes out (Length len) (too_long bytes len (subst P b.whole begins))

  -- the payload isn't whole
  pub Appends-payload : (bytes held behind begun grown : List ℕ) (len : ℕ) (out : List (Vec ℕ A)) → IsBegun bytes held behind begun len → len ≤ largest_payload
      → grown ≡ held ++ behind → length begun + length behind < len → Appends bytes out out (Rest grown)
  Appends-payload bytes held behind begun grown len out b fits is short =
      let spells : spelled (take 8 grown) ≡ len = ap (λ xs. spelled (take 8 xs)) is ∙ ap spelled (take-append-le 8 held behind (omega (arith, b.enough))) ∙ b.spells in
      rest_grows bytes grown out (is ∙ b.whole)
      (IsUnfinished-payload grown len spells fits (omega (arith, ap length is, length-append held behind, b.enough)))

  -- the payload is whole, and its last part is the first of what comes next
  pub Appends-frame : (bytes held behind begun last more payload : List ℕ) (len : ℕ) (old new : List (Vec ℕ A)) (tail : Tail) → IsBegun bytes held behind begun len → len ≤ largest_payload
      → behind ≡ last ++ more → length begun + length last ≡ len → payload ≡ begun ++ last → AppendsAfter payload more old new tail → Appends bytes old new tail
  Appends-frame bytes held behind begun last more payload len old new tail b fits parts long is a =
      let same : length payload ≡ len = ap length is ∙ length-append begun last ∙ long in
      let front : take 8 held ++ begun ≡ held = ap (λ xs. take 8 held ++ xs) b.after ∙ take-append-drop 8 held in
      let rest : begun ++ behind ≡ payload ++ more = ap (λ xs. begun ++ xs) parts ∙ sym (append_assoc begun last more) ∙ ap (λ xs. xs ++ more) (sym is) in
      let whole : bytes ≡ take 8 held ++ (payload ++ more) =
      sym b.whole ∙ ap (λ xs. xs ++ behind) (sym front) ∙ append_assoc (take 8 held) begun behind ∙ ap (λ xs. take 8 held ++ xs) rest in
      let begins : BeginsWithFrame bytes payload more = record {
        fits = omega (arith, same);
        begins = record { head = take 8 held; eight = length-take-le 8 held (omega (arith, b.enough)); spells = b.spells ∙ sym same; whole = whole };
      } in
      record { payloads = payload ∷ a.payloads; appended = a.appended; frames = frame bytes payload more a.payloads tail begins a.frames }

  -- ---- what was appended is what the one reading says

  -- so the rest that is left is unfinished
  pub left_is_unfinished : (bytes rest : List ℕ) (old new : List (Vec ℕ A)) → Appends bytes old new (Rest rest) → IsUnfinished rest
  left_is_unfinished bytes rest old new a = unfinished_tail bytes a.payloads (Rest rest) a.frames rest refl

  one_tail : (held rest piece : List ℕ) (old new : List (Vec ℕ A)) (tail other : Tail) (payloads : List (List ℕ))
      → Rest held ≡ Rest rest → Appends (held ++ piece) old new tail → IsFrames (rest ++ piece) payloads other → tail ≡ other
  one_tail held rest piece old new tail other payloads e a f =
      let same : rest ≡ held = cc in
      let P : List ℕ → Type 0 = λ xs. IsFrames (xs ++ piece) payloads other in
      (one_reading (held ++ piece) a.payloads payloads tail other a.frames (subst P same f)).1

  -- a piece that left a rest met no length
  pub no_length : (held rest piece left : List ℕ) (old new : List (Vec ℕ A)) (payloads : List (List ℕ)) (len : ℕ)
      → Rest held ≡ Rest rest → Appends (held ++ piece) old new (Rest left) → IsFrames (rest ++ piece) payloads (Length len) → ⊥
  no_length held rest piece left old new payloads len e a f =
      let same : Rest left ≡ Length len = one_tail held rest piece old new (Rest left) (Length len) payloads e a f in
      cc

  -- and one that met a length met that one
  pub one_length : (held rest piece : List ℕ) (old new : List (Vec ℕ A)) (payloads : List (List ℕ)) (met len : ℕ)
      → Rest held ≡ Rest rest → Appends (held ++ piece) old new (Length met) → IsFrames (rest ++ piece) payloads (Length len) → met ≡ len
  one_length held rest piece old new payloads met len e a f =
      let same : Length met ≡ Length len = one_tail held rest piece old new (Length met) (Length len) payloads e a f in
      cc

  -- ---- what was read of a stream so far, and what a further piece adds

  pub reads_on : (bytes piece : List ℕ) (given : List (List ℕ)) (old new : List (Vec ℕ A)) (before after : Tail) → IsFrames bytes given before → ReadsOn before piece old new after
      → (later : List (List ℕ)) × (payloads_of new ≡ payloads_of old ++ later) × IsFrames (bytes ++ piece) (given ++ later) after
  reads_on bytes piece given old new before after f r =
      let P : Tail → Type 0 = λ t. IsFrames bytes given t in
      (r.read.payloads, r.read.appended, frames_go_on bytes piece r.rest given r.read.payloads after (subst P r.held f) r.read.frames)

  -- the same where the list has all payloads so far
  pub reads_whole : (bytes piece : List ℕ) (old new : List (Vec ℕ A)) (before after : Tail) → IsFrames bytes (payloads_of old) before → ReadsOn before piece old new after
      → IsFrames (bytes ++ piece) (payloads_of new) after
  reads_whole bytes piece old new before after f r =
      let on = reads_on bytes piece (payloads_of old) old new before after f r in
      let P : List (List ℕ) → Type 0 = λ ps. IsFrames (bytes ++ piece) ps after in
      subst P (sym on.1) on.2
