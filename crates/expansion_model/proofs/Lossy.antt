-- Bytes with replacement characters for what is no UTF-8 are UTF-8.
use Rattle.std.proofs.Common.{◌≡◌, refl, sym, subst, arith, ℕ, zero, suc, ◌+◌, ◌≤◌, ◌<◌, List, [], ◌∷◌, ◌++◌, length, length-drop, take, take_all, drop, slice_index, Option, Some, None, Bool, true, false, if◌then◌else◌, nat_lt, ◌==◌, true-eqb, false-eqb}
use Rattle.std.specs.Int.{is_in_range}
use Rattle.std.specs.Option.{unwrap_or}
use lib.Utf8.{encode}
use Rattle.std.specs.Str.{IsUtf8, chars, is_utf8}
use Rattle.std.specs.Str.Lossy.{after_first_chunk, error_len_after_one, error_len_after_two, error_len_of_some, replacement_bytes, second_byte_max, second_byte_min, utf8_error_len, utf8_invalid_len, utf8_lossy, utf8_lossy_within, utf8_valid_len, valid_len_up_to}
use Rattle.std.proofs.lemmas.Str.{IsUtf8-append, IsUtf8-from_is_utf8, IsUtf8-nil, utf8_valid_len_le}

some_if : (size : ℕ) (test : Bool) (one other : Option ℕ) → 0 < unwrap_or one size → 0 < unwrap_or other size → 0 < unwrap_or (if test then one else other) size
some_if size true one other first second = first
some_if size false one other first second = second

-- what is no UTF-8 holds a byte
invalid_is_some : (bs : List ℕ) → 0 < length bs → 0 < utf8_invalid_len bs
unfolding utf8_error_len
invalid_is_some bs some =
    let size = length bs in
    let first = slice_index bs 0 in
    let one : 0 < unwrap_or (Some 1) size = omega arith in
    let third = is_in_range 0x80 0xBF (slice_index bs 2) in
    let short = nat_lt size 4 in
    let after_two : 0 < unwrap_or (error_len_after_two bs) size =
    some_if size (nat_lt size 3) None (if third then (if short then None else Some 3) else Some 2) some
    (some_if size third (if short then None else Some 3) (Some 2) (some_if size short None (Some 3) some (omega arith)) (omega arith)) in
    let second = is_in_range (second_byte_min first) (second_byte_max first) (slice_index bs 1) in
    let after_one : 0 < unwrap_or (error_len_after_one bs) size =
    some_if size (nat_lt size 2) None (if second then error_len_after_two bs else Some 1) some (some_if size second (error_len_after_two bs) (Some 1) after_two one) in
    some_if size (size == 0) None (error_len_of_some bs) some (some_if size (is_in_range 0xC2 0xF4 first) (error_len_after_one bs) (Some 1) after_one one)

rest_is_shorter : (bs : List ℕ) → ¬ (utf8_valid_len bs ≡ length bs) → length (after_first_chunk bs) < length bs
rest_is_shorter bs faulty =
    let valid = utf8_valid_len bs in
    let within = utf8_valid_len_le bs in
    let some = invalid_is_some (drop valid bs) (omega (arith, length-drop valid bs)) in
    omega (arith, length-drop (valid + utf8_invalid_len (drop valid bs)) bs)

front_by : (bs : List ℕ) (n shorter : ℕ) (whole : Bool) → is_utf8 (take n bs) ≡ whole → IsUtf8 (take shorter bs) → IsUtf8 (take (if whole then n else shorter) bs)
front_by bs n shorter true is holds = IsUtf8-from_is_utf8 (take n bs) is
front_by bs n shorter false is holds = holds

front_is_utf8 : (bs : List ℕ) (n : ℕ) → IsUtf8 (take (valid_len_up_to bs n) bs)
front_is_utf8 bs zero = IsUtf8-nil
front_is_utf8 bs (suc n) = front_by bs (suc n) (valid_len_up_to bs n) (is_utf8 (take (suc n) bs)) refl (front_is_utf8 bs n)

valid_is_utf8 : (bs : List ℕ) → IsUtf8 (take (utf8_valid_len bs) bs)
unfolding utf8_valid_len
valid_is_utf8 bs = front_is_utf8 bs (length bs)

replacement_is_utf8 : IsUtf8 replacement_bytes
unfolding is_utf8 chars encode
replacement_is_utf8 = IsUtf8-from_is_utf8 replacement_bytes refl

within_by : (k : ℕ) (bs : List ℕ) → (length (after_first_chunk bs) ≤ k → IsUtf8 (utf8_lossy_within k (after_first_chunk bs))) → length bs ≤ suc k
    → (whole : Bool) → (utf8_valid_len bs == length bs) ≡ whole
    → IsUtf8 (if whole then bs else take (utf8_valid_len bs) bs ++ (replacement_bytes ++ utf8_lossy_within k (after_first_chunk bs)))
within_by k bs rest short true is =
    let same : utf8_valid_len bs ≡ length bs = true-eqb _ _ (sym is) in
    subst IsUtf8 (take_all (utf8_valid_len bs) bs (omega arith)) (valid_is_utf8 bs)
within_by k bs rest short false is =
    let less = rest_is_shorter bs (false-eqb _ _ (sym is)) in
    IsUtf8-append (take (utf8_valid_len bs) bs) (replacement_bytes ++ utf8_lossy_within k (after_first_chunk bs)) (valid_is_utf8 bs)
    (IsUtf8-append replacement_bytes (utf8_lossy_within k (after_first_chunk bs)) replacement_is_utf8 (rest (omega arith)))

within_is_utf8 : (k : ℕ) (bs : List ℕ) → length bs ≤ k → IsUtf8 (utf8_lossy_within k bs)
within_is_utf8 zero [] short = IsUtf8-nil
within_is_utf8 zero (b ∷ bs) short = absurd (omega arith)
within_is_utf8 (suc k) bs short = within_by k bs (within_is_utf8 k (after_first_chunk bs)) short (utf8_valid_len bs == length bs) refl

pub lossy_is_utf8 : (bs : List ℕ) → IsUtf8 (utf8_lossy bs)
unfolding utf8_lossy
lossy_is_utf8 bs = within_is_utf8 (length bs) bs (omega arith)
