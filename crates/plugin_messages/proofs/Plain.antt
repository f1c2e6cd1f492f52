-- What is written of a value in order is read again as that value.
use Rattle.std.proofs.Common.{◌≡◌, ℕ, suc, ◌<◌, ◌≤◌, ◌^◌, ℤ, pos, negsuc, List, [], ◌∷◌, ◌++◌, map, Some, option_map, option_and_then, Bool, true, false, Less, Greater, refl, sym, ap, ◌∙◌, subst, arith, append-nil}
use Rattle.std.specs.Ordering.{nat_cmp, match_ordering, ordering_reverse}
use Rattle.std.specs.Cmp.Lexicographic.{slice_cmp}
use Rattle.std.specs.List.{All}
use Rattle.std.specs.Str.{IsUtf8}
use Rattle.std.proofs.lemmas.Cmp.{nat_list_cmp_total}
use Rattle.std.proofs.lemmas.Fmt.{IsAscii-decimal, IsAscii-signed}
use Rattle.std.proofs.lemmas.Str.{IsUtf8-append, IsUtf8-nil, IsUtf8-from_ascii}
use Rattle.json.specs.Lex.{tokens}
use Rattle.json.specs.Json as json
use Rattle.json.specs.Tree as tree
use Rattle.json.proofs.Printed.Tokens.{tokens-print}
use Rattle.json.proofs.Printed.Trees.{ArePrintable-json_tokens, value-json_tokens}
use Rattle.json.proofs.Printed.Utf8.{IsUtf8-are_ascii, IsUtf8-quoted, IsUtf8-boolean}
use Rattle.json.proofs.Printed.Decimals.{IsNumber-decimal, IsNumber-signed_decimal}
use Rattle.serde_json.specs.Data.{Data, boolean, number, string, array, object, unsigned, Items, no_items, item, Members, no_members, member, put}
use Rattle.serde_json.specs.Find.{of_integer}
use Rattle.serde_json.specs.View.{items_of}
use Rattle.serde_json.specs.Read.{read, max_depth, of_json, of_items, of_members}
use Rattle.serde_json.specs.Written.{outline, items_outline, members_outline, compact_text, items_text, members_text, comma_if}
use Rattle.serde_json.proofs.Numbers.{number_of-decimal, number_of-negative}
use Rattle.serde_json.proofs.Texts.{print-outline}
use Rattle.plugin_messages.specs.Written.{Field, object_of, with_fields, array_of}
use Rattle.plugin_messages.specs.RoundTrip.{IsVersion}
use Rattle.plugin_messages.proofs.Members.{EachMember, EachKey, EachField, EachLabel, IsBelow, AreInOrder, each_with_fields, keys_with_fields, order_with_fields}

-- a value whose text is UTF-8 and reads as the value, and which nests at most n deep
pub record IsPlain (n : ℕ) (d : Data) : Type 0 where
  pub utf8 : IsUtf8 (compact_text d)
  pub shallow : tree.depth (outline d) ≤ n
  pub numbers : tree.HasNumbers (outline d)
  pub reads : of_json (outline d) ≡ Some d

-- ---- objects

joined : Members → Members → Members
joined no_members ms = ms
joined (member k d found) ms = member k d (joined found ms)

joined-no_members : (ms : Members) → joined ms no_members ≡ ms
unfolding joined
joined-no_members no_members = refl
joined-no_members (member k d ms) = ap (member k d) (joined-no_members ms)

joined_next : (found : Members) (k : List ℕ) (d : Data) (ms : Members) → joined (joined found (member k d no_members)) ms ≡ joined found (member k d ms)
unfolding joined
joined_next no_members k d ms = refl
joined_next (member l e found) k d ms = ap (member l e) (joined_next found k d ms)

below_at : (l : List ℕ) (found : Members) (k : List ℕ) (d : Data) (ms : Members) → IsBelow l (joined found (member k d ms)) → slice_cmp nat_cmp l k ≡ Less
unfolding joined
below_at l no_members k d ms below = below.0
below_at l (member j e found) k d ms below = below_at l found k d ms below.1

put_last : (found : Members) (k : List ℕ) (d : Data) (ms : Members) → AreInOrder (joined found (member k d ms)) → put k d found ≡ joined found (member k d no_members)
unfolding joined
put_last no_members k d ms order = refl
put_last (member l e found) k d ms order =
    let after : slice_cmp nat_cmp k l ≡ Greater = nat_list_cmp_total.antisymm k l ∙ ap ordering_reverse (below_at l found k d ms order.0) in
    ap (λ o. match_ordering o (member k d (member l e found)) (member l d found) (member l e (put k d found))) after ∙ ap (member l e) (put_last found k d ms order.1)

members_read : (n : ℕ) (ms found : Members) → AreInOrder (joined found ms) → EachMember (IsPlain n) ms → of_members (members_outline ms) found ≡ Some (joined found ms)
members_read n no_members found order each = ap Some (sym (joined-no_members found))
members_read n (member k d ms) found order each =
    ap (option_and_then (λ e. of_members (members_outline ms) (put k e found))) each.0.reads
    ∙ (ap (of_members (members_outline ms)) (put_last found k d ms order)
    ∙ (members_read n ms (joined found (member k d no_members)) (subst AreInOrder (sym (joined_next found k d ms)) order) each.1 ∙ ap Some (joined_next found k d ms)))

comma_is_utf8 : (later : Bool) → IsUtf8 (comma_if later)
comma_is_utf8 true = IsUtf8-are_ascii (44 ∷ []) refl
comma_is_utf8 false = IsUtf8-nil

members_are_utf8 : (n : ℕ) (later : Bool) (ms : Members) → EachKey IsUtf8 ms → EachMember (IsPlain n) ms → IsUtf8 (members_text later ms)
members_are_utf8 n later no_members keys each = IsUtf8-are_ascii (125 ∷ []) refl
members_are_utf8 n later (member k d ms) keys each =
    IsUtf8-append _ _ (comma_is_utf8 later) (IsUtf8-append _ _ (IsUtf8-quoted k keys.0)
    (IsUtf8-append (58 ∷ []) _ (IsUtf8-are_ascii (58 ∷ []) refl) (IsUtf8-append _ _ each.0.utf8 (members_are_utf8 n true ms keys.1 each.1))))

members_are_shallow : (n : ℕ) (ms : Members) → EachMember (IsPlain n) ms → tree.members_depth (members_outline ms) ≤ n
members_are_shallow n no_members each = omega arith
members_are_shallow n (member k d ms) each = omega (arith, each.0.shallow, members_are_shallow n ms each.1)

members_have_numbers : (n : ℕ) (ms : Members) → EachMember (IsPlain n) ms → tree.MembersHaveNumbers (members_outline ms)
members_have_numbers n no_members each = tt
members_have_numbers n (member k d ms) each = (each.0.numbers, members_have_numbers n ms each.1)

plain_members : (n : ℕ) (ms : Members) → AreInOrder ms → EachKey IsUtf8 ms → EachMember (IsPlain n) ms → IsPlain (suc n) (object ms)
unfolding joined
plain_members n ms order keys each = record {
  utf8 = IsUtf8-append (123 ∷ []) _ (IsUtf8-are_ascii (123 ∷ []) refl) (members_are_utf8 n false ms keys each);
  shallow = omega (arith, members_are_shallow n ms each);
  numbers = members_have_numbers n ms each;
  reads = ap (option_map object) (members_read n ms no_members order each);
}

pub plain_object : (n : ℕ) (fields : List Field) → EachLabel IsUtf8 fields → EachField (IsPlain n) fields → IsPlain (suc n) (object_of fields)
plain_object n fields labels each =
    plain_members n (with_fields fields no_members) (order_with_fields fields no_members tt) (keys_with_fields IsUtf8 fields no_members labels tt) (each_with_fields (IsPlain n) fields no_members each tt)

-- ---- arrays

abbrev EachItem : (Data → Type 0) → Items → Type 0
EachItem P no_items = Unit {0}
EachItem P (item d ds) = P d × EachItem P ds

items_read : (n : ℕ) (ds : Items) → EachItem (IsPlain n) ds → of_items (items_outline ds) ≡ Some ds
items_read n no_items each = refl
items_read n (item d ds) each = ap (option_and_then (λ e. option_map (item e) (of_items (items_outline ds)))) each.0.reads ∙ ap (option_map (item d)) (items_read n ds each.1)

items_are_utf8 : (n : ℕ) (later : Bool) (ds : Items) → EachItem (IsPlain n) ds → IsUtf8 (items_text later ds)
items_are_utf8 n later no_items each = IsUtf8-are_ascii (93 ∷ []) refl
items_are_utf8 n later (item d ds) each = IsUtf8-append _ _ (comma_is_utf8 later) (IsUtf8-append _ _ each.0.utf8 (items_are_utf8 n true ds each.1))

items_are_shallow : (n : ℕ) (ds : Items) → EachItem (IsPlain n) ds → tree.items_depth (items_outline ds) ≤ n
items_are_shallow n no_items each = omega arith
items_are_shallow n (item d ds) each = omega (arith, each.0.shallow, items_are_shallow n ds each.1)

items_have_numbers : (n : ℕ) (ds : Items) → EachItem (IsPlain n) ds → tree.ItemsHaveNumbers (items_outline ds)
items_have_numbers n no_items each = tt
items_have_numbers n (item d ds) each = (each.0.numbers, items_have_numbers n ds each.1)

plain_items : (n : ℕ) (ds : Items) → EachItem (IsPlain n) ds → IsPlain (suc n) (array ds)
plain_items n ds each = record {
  utf8 = IsUtf8-append (91 ∷ []) _ (IsUtf8-are_ascii (91 ∷ []) refl) (items_are_utf8 n false ds each);
  shallow = omega (arith, items_are_shallow n ds each);
  numbers = items_have_numbers n ds each;
  reads = ap (option_map array) (items_read n ds each);
}

each_of_list : {A : Type 0} (P : A → Type 0) (n : ℕ) (write : A → Data) → ((x : A) → P x → IsPlain n (write x)) → (xs : List A) → All P xs → EachItem (IsPlain n) (items_of (map write xs))
each_of_list P n write plain [] each = tt
each_of_list P n write plain (x ∷ xs) each = (plain x (each 0 x (omega arith)), each_of_list P n write plain xs (λ k d h. each (suc k) d (omega arith)))

pub plain_array : {A : Type 0} (P : A → Type 0) (n : ℕ) (write : A → Data) → ((x : A) → P x → IsPlain n (write x)) → (xs : List A) → All P xs → IsPlain (suc n) (array_of write xs)
unfolding array_of
plain_array P n write plain xs each = plain_items n (items_of (map write xs)) (each_of_list P n write plain xs each)

pub plain_empty : (n : ℕ) → IsPlain (suc n) (array no_items)
plain_empty n = plain_items n no_items tt

-- ---- the rest

pub plain_text : (n : ℕ) (s : List ℕ) → IsUtf8 s → IsPlain n (string s)
plain_text n s u = record { utf8 = IsUtf8-quoted s u; shallow = omega arith; numbers = tt; reads = refl }

pub plain_flag : (n : ℕ) (b : Bool) → IsPlain n (boolean b)
plain_flag n b = record { utf8 = IsUtf8-boolean b; shallow = omega arith; numbers = tt; reads = refl }

pub plain_number : (n x : ℕ) → x < 2 ^ 64 → IsPlain n (number (unsigned x))
plain_number n x small = record { utf8 = IsUtf8-from_ascii _ (IsAscii-decimal x small); shallow = omega arith; numbers = IsNumber-decimal x small; reads = ap (option_map number) (number_of-decimal x small) }

pub plain_integer : (n : ℕ) (z : ℤ) → IsVersion z → IsPlain n (number (of_integer z))
plain_integer n (pos x) small = plain_number n x (omega arith)
plain_integer n (negsuc x) small = record {
  utf8 = IsUtf8-from_ascii _ (IsAscii-signed (negsuc x) small);
  shallow = omega arith;
  numbers = IsNumber-signed_decimal (negsuc x) small;
  reads = ap (option_map number) (number_of-negative x small);
}

-- ---- the text of a plain value

pub text_read : (n : ℕ) (d : Data) → IsPlain n d → n ≤ max_depth → read (compact_text d) ≡ Some d
text_read n d p deep =
    let shown : tokens (compact_text d) ≡ tree.json_tokens (outline d) ++ [] =
    ap tokens (sym (print-outline d)) ∙ (tokens-print (tree.json_tokens (outline d)) (ArePrintable-json_tokens (outline d) p.numbers) ∙ sym (append-nil _)) in
    let whole = value-json_tokens (outline d) max_depth [] (omega (arith, p.shallow)) in
    ap (λ o. option_and_then of_json (option_and_then (λ q. json.if_last q.0 q.1) o)) (ap (json.value max_depth) shown ∙ whole) ∙ p.reads
