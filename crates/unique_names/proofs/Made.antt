-- Unique names: the test, one key, and names that were made.
use Rattle.std.proofs.Common.{◌≡◌, ◌∙◌, ℕ, zero, suc, ◌<◌, List, [], ◌∷◌, ◌++◌, length, drop, get_or, codes, nat_eq, sym, refl, ap, lit<, arith, append_assoc, length-append}
use Rattle.std.specs.List.{starts_with, AllByRecursion}
use Rattle.std.specs.Cmp.{unsigned_Decides}
use Rattle.std.specs.Str.{IsUtf8}
use Rattle.std.proofs.lemmas.Bool.Decides.{Decides-and, Decides-ltb, Decides-like}
use Rattle.std.proofs.lemmas.Slice.Eq.{starts_is}
use Rattle.std.proofs.lemmas.Str.{IsUtf8-append, IsUtf8-nil}
use Rattle.unique_names.specs.Names.{numeral}
use Rattle.unique_names.specs.Unique.{base_read, index_text, ending_of, made_name}
use Rattle.unique_names.specs.UniqueLaws.{UniqueNamesAreDecided, UniqueNamesTellKeys, MadeNamesAreUnique, MadeNamesDiffer, MadeNamesAreUtf8}
use Rattle.unique_names.proofs.Numerals.{AllDigits, numeral_is_digits, numeral_is_some, one_number, digits_end_alike}
use Rattle.unique_names.proofs.Prefix.{one_key_begins}
use Rattle.unique_names.proofs.Texts.{byte_is_utf8, numeral_is_utf8}

pub are_decided : UniqueNamesAreDecided
are_decided key_text name =
    let starts = starts_is unsigned_Decides name key_text (starts_with nat_eq name key_text) refl in
    Decides-like _
    (λ both. record { rest = drop (length key_text) name; begins = starts.0 both.0; longer = both.1 })
    (λ unique. (starts.1 unique.rest unique.begins, unique.longer))
    (Decides-and _ _ (λ e. e, λ e. e) (Decides-ltb (length key_text) (length name)))

pub tell_keys : UniqueNamesTellKeys
tell_keys a b word one other = one_key_begins a b one.rest other.rest (sym one.begins ∙ other.begins)

ending_is_some : (base : List ℕ) (index : ℕ) → 0 < length (ending_of base index)
unfolding ending_of
ending_is_some base index = simp length-append (omega arith)

pub are_unique : MadeNamesAreUnique
unfolding made_name
are_unique key_text base index =
    let more = ending_is_some (base_read base) index in
    record { rest = ending_of (base_read base) index; begins = refl; longer = simp length-append (omega arith) }

-- an index, told from the end of a name: there are digits and `_` behind the last `u`
index_is_digits : (index : ℕ) → AllDigits (index_text index)
unfolding index_text
index_is_digits zero = tt
index_is_digits (suc before) = numeral_is_digits before

one_index : (i j : ℕ) → index_text i ≡ index_text j → i ≡ j
unfolding index_text
one_index zero zero e = refl
one_index zero (suc b) e = absurd (numeral_is_some b e)
one_index (suc a) zero e = absurd (numeral_is_some a (sym e))
one_index (suc a) (suc b) e = ap suc (one_number a b e)

other_bytes : (c d : ℕ) → c < d → c ≡ d → ⊥
other_bytes c d less same = omega arith

no_letter_behind : (digits front behind : List ℕ) → AllDigits digits → digits ++ 95 ∷ [] ≡ front ++ 117 ∷ behind → ⊥
no_letter_behind [] [] behind are e = other_bytes 95 117 (lit< tt) (ap (λ (text : List ℕ). get_or text 0 0) e)
no_letter_behind [] (c ∷ []) behind are e = cc
no_letter_behind [] (c ∷ d ∷ front) behind are e = cc
no_letter_behind (digit ∷ digits) [] behind are e = let same : digit ≡ 117 = cc in omega (arith, are.0.below)
no_letter_behind (digit ∷ digits) (c ∷ front) behind are e = let more : digits ++ 95 ∷ [] ≡ front ++ 117 ∷ behind = cc in no_letter_behind digits front behind are.1 more

digits_alike : (front other digits more : List ℕ) → AllDigits digits → AllDigits more → front ++ 117 ∷ (digits ++ 95 ∷ []) ≡ other ++ 117 ∷ (more ++ 95 ∷ []) → digits ≡ more
digits_alike [] [] digits more are is e =
    let same : digits ++ 95 ∷ [] ≡ more ++ 95 ∷ [] = cc in
    (digits_end_alike digits more 95 95 [] [] are is (λ d. omega (arith, d.below)) (λ d. omega (arith, d.below)) same).digits
digits_alike [] (c ∷ other) digits more are is e =
    let same : digits ++ 95 ∷ [] ≡ other ++ 117 ∷ (more ++ 95 ∷ []) = cc in absurd (no_letter_behind digits other (more ++ 95 ∷ []) are same)
digits_alike (c ∷ front) [] digits more are is e =
    let same : more ++ 95 ∷ [] ≡ front ++ 117 ∷ (digits ++ 95 ∷ []) = cc in absurd (no_letter_behind more front (digits ++ 95 ∷ []) is same)
digits_alike (c ∷ front) (d ∷ other) digits more are is e =
    let same : front ++ 117 ∷ (digits ++ 95 ∷ []) ≡ other ++ 117 ∷ (more ++ 95 ∷ []) = cc in digits_alike front other digits more are is same

-- what stands before the last `u`
front_of : List ℕ → List ℕ → List ℕ
front_of key_text base = key_text ++ (numeral (length base) ++ (base ++ 102 ∷ 77 ∷ []))

made_in_two : (key_text base : List ℕ) (index : ℕ) → made_name key_text base index ≡ front_of key_text (base_read base) ++ 117 ∷ (index_text index ++ 95 ∷ [])
unfolding made_name ending_of front_of
made_in_two key_text base index = simp append_assoc

pub differ : MadeNamesDiffer
differ key_text a b i j e =
    one_index i j
    (digits_alike (front_of key_text (base_read a)) (front_of key_text (base_read b)) (index_text i) (index_text j) (index_is_digits i) (index_is_digits j)
    (sym (made_in_two key_text a i) ∙ e ∙ made_in_two key_text b j))

index_is_utf8 : (index : ℕ) → IsUtf8 (index_text index)
unfolding index_text
index_is_utf8 zero = IsUtf8-nil
index_is_utf8 (suc before) = numeral_is_utf8 before

ascii : (text : List ℕ) → AllByRecursion (λ c. c < 128) text → IsUtf8 text
ascii [] small = IsUtf8-nil
ascii (c ∷ text) small = IsUtf8-append (c ∷ []) text (byte_is_utf8 c small.0) (ascii text small.1)

base_is_utf8 : (base : List ℕ) → IsUtf8 base → IsUtf8 (base_read base)
base_is_utf8 [] utf8 = ascii (base_read []) (omega arith, (omega arith, (omega arith, (omega arith, (omega arith, (omega arith, (omega arith, tt)))))))
base_is_utf8 (byte ∷ base) utf8 = utf8

pub are_utf8 : MadeNamesAreUtf8
unfolding made_name ending_of
are_utf8 key_text base index key utf8 =
    let shown = base_is_utf8 base utf8 in
    IsUtf8-append key_text _ key
    (IsUtf8-append (numeral (length (base_read base))) _ (numeral_is_utf8 _)
    (IsUtf8-append (base_read base) _ shown
    (IsUtf8-append (codes "fMu") _ (ascii (codes "fMu") (omega arith, (omega arith, (omega arith, tt))))
    (IsUtf8-append (index_text index) _ (index_is_utf8 index) (byte_is_utf8 95 (omega arith))))))
