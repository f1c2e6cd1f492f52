-- How bytes begin: with a frame, with a length above the limit, or with neither.
use Rattle.std.proofs.Common.{◌≡◌, ℕ, ◌+◌, ◌<◌, ◌≤◌, ◌^◌, List, ◌++◌, length, take, drop, refl, sym, ap, ◌∙◌, append_assoc, arith, length-append}
use Rattle.std.proofs.lemmas.List.{take_at, drop_at, take-append-drop, length-take-le, length-drop}
use Rattle.std.proofs.lemmas.Nat.{from_le_bytes-to_le_bytes_8}
use Rattle.plugin_frames.specs.Frames.{largest_payload, header_of, spelled, frame_of, Fits, BeginsWith, BeginsWithFrame, BeginsTooLong, IsUnfinished}

-- what bytes begin with is read from their first eight
pub record BeginsBy (bytes : List ℕ) (number : ℕ) (more : List ℕ) : Type 0 where
  pub spells : spelled (take 8 bytes) ≡ number
  pub behind : drop 8 bytes ≡ more
  pub enough : 8 + length more ≡ length bytes

pub BeginsBy-of : (bytes : List ℕ) (number : ℕ) (more : List ℕ) → BeginsWith bytes number more → BeginsBy bytes number more
BeginsBy-of bytes number more b = record {
  spells = ap spelled (ap (λ xs. take 8 xs) b.whole ∙ take_at b.head more 8 b.eight) ∙ b.spells;
  behind = ap (λ xs. drop 8 xs) b.whole ∙ drop_at b.head more 8 b.eight;
  enough = omega (arith, ap length b.whole, length-append b.head more, b.eight);
}

pub BeginsWith-at : (bytes : List ℕ) (number : ℕ) → 8 ≤ length bytes → spelled (take 8 bytes) ≡ number → BeginsWith bytes number (drop 8 bytes)
BeginsWith-at bytes number enough spells = record {
  head = take 8 bytes;
  eight = length-take-le 8 bytes enough;
  spells = spells;
  whole = sym (take-append-drop 8 bytes);
}

pub BeginsWithFrame-at : (bytes : List ℕ) (len : ℕ) → spelled (take 8 bytes) ≡ len → len ≤ largest_payload → 8 + len ≤ length bytes
    → BeginsWithFrame bytes (take len (drop 8 bytes)) (drop len (drop 8 bytes))
BeginsWithFrame-at bytes len spells within enough =
    let long : length (take len (drop 8 bytes)) ≡ len = length-take-le len (drop 8 bytes) (omega (arith, length-drop 8 bytes)) in
    let whole : take len (drop 8 bytes) ++ drop len (drop 8 bytes) ≡ drop 8 bytes = take-append-drop len (drop 8 bytes) in
    record {
      fits = rw long within;
      begins = rw (long, whole) (BeginsWith-at bytes len (omega arith) spells);
    }

pub BeginsTooLong-at : (bytes : List ℕ) (len : ℕ) → spelled (take 8 bytes) ≡ len → largest_payload < len → 8 ≤ length bytes → BeginsTooLong bytes len
BeginsTooLong-at bytes len spells above enough = record {
  above = above;
  more = drop 8 bytes;
  begins = BeginsWith-at bytes len enough spells;
}

-- fewer than eight bytes
pub IsUnfinished-header : (bytes : List ℕ) → length bytes < 8 → IsUnfinished bytes
IsUnfinished-header bytes short = record {
  no_frame = λ payload more b. let by = BeginsBy-of bytes (length payload) (payload ++ more) b.begins in absurd (omega (arith, by.enough));
  no_length = λ len b. let by = BeginsBy-of bytes len b.more b.begins in absurd (omega (arith, by.enough));
}

-- fewer bytes than the header says
pub IsUnfinished-payload : (bytes : List ℕ) (len : ℕ) → spelled (take 8 bytes) ≡ len → len ≤ largest_payload → length bytes < 8 + len → IsUnfinished bytes
IsUnfinished-payload bytes len spells within short = record {
  no_frame = λ payload more b.
      let by = BeginsBy-of bytes (length payload) (payload ++ more) b.begins in
      let same : len ≡ length payload = sym spells ∙ by.spells in
      absurd (omega (arith, by.enough, length-append payload more));
  no_length = λ other b.
      let by = BeginsBy-of bytes other b.more b.begins in
      let same : len ≡ other = sym spells ∙ by.spells in
      absurd (omega (arith, b.above));
}

-- two frames at one place are one
pub one_frame : (bytes payload more other behind : List ℕ) → BeginsWithFrame bytes payload more → BeginsWithFrame bytes other behind → (payload ≡ other) × (more ≡ behind)
one_frame bytes payload more other behind b c =
    let by = BeginsBy-of bytes (length payload) (payload ++ more) b.begins in
    let cy = BeginsBy-of bytes (length other) (other ++ behind) c.begins in
    let same : length payload ≡ length other = sym by.spells ∙ cy.spells in
    let whole : payload ++ more ≡ other ++ behind = sym by.behind ∙ cy.behind in (
      sym (take_at payload more (length payload) refl) ∙ ap (λ xs. take (length payload) xs) whole ∙ take_at other behind (length payload) (sym same),
      sym (drop_at payload more (length payload) refl) ∙ ap (λ xs. drop (length payload) xs) whole ∙ drop_at other behind (length payload) (sym same),
    )

pub one_length : (bytes : List ℕ) (len other : ℕ) → BeginsTooLong bytes len → BeginsTooLong bytes other → len ≡ other
one_length bytes len other b c = sym (BeginsBy-of bytes len b.more b.begins).spells ∙ (BeginsBy-of bytes other c.more c.begins).spells

pub no_frame_too_long : (bytes payload more : List ℕ) (len : ℕ) → BeginsWithFrame bytes payload more → BeginsTooLong bytes len → ⊥
no_frame_too_long bytes payload more len b c =
    let same : length payload ≡ len = sym (BeginsBy-of bytes (length payload) (payload ++ more) b.begins).spells ∙ (BeginsBy-of bytes len c.more c.begins).spells in
    omega (arith, b.fits, c.above)

-- what bytes begin with they begin with, whatever follows them
BeginsWith-append : (bytes more behind : List ℕ) (number : ℕ) → BeginsWith bytes number more → BeginsWith (bytes ++ behind) number (more ++ behind)
BeginsWith-append bytes more behind number b = record {
  head = b.head;
  eight = b.eight;
  spells = b.spells;
  whole = ap (λ xs. xs ++ behind) b.whole ∙ append_assoc b.head more behind;
}

pub BeginsWithFrame-append : (bytes payload more behind : List ℕ) → BeginsWithFrame bytes payload more → BeginsWithFrame (bytes ++ behind) payload (more ++ behind)
BeginsWithFrame-append bytes payload more behind b = record {
  fits = b.fits;
  begins = rw (← append_assoc payload more behind) (BeginsWith-append bytes (payload ++ more) behind (length payload) b.begins);
}

pub BeginsTooLong-append : (bytes behind : List ℕ) (len : ℕ) → BeginsTooLong bytes len → BeginsTooLong (bytes ++ behind) len
BeginsTooLong-append bytes behind len b = record {
  above = b.above;
  more = b.more ++ behind;
  begins = BeginsWith-append bytes b.more behind len b.begins;
}

-- a header spells its length
pub spelled-header_of : (n : ℕ) → n < 2 ^ 64 → spelled (header_of n) ≡ n
unfolding spelled header_of
spelled-header_of n fits = from_le_bytes-to_le_bytes_8 n fits

length-header_of : (n : ℕ) → length (header_of n) ≡ 8
unfolding header_of
length-header_of n = refl

pub BeginsWithFrame-frame_of : (payload more : List ℕ) → Fits payload → BeginsWithFrame (frame_of payload ++ more) payload more
unfolding frame_of
BeginsWithFrame-frame_of payload more fits = record {
  fits = fits;
  begins = record {
    head = header_of (length payload);
    eight = length-header_of (length payload);
    spells = spelled-header_of (length payload) (omega arith);
    whole = append_assoc (header_of (length payload)) payload more;
  };
}
