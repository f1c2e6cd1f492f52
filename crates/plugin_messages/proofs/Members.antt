-- What holds of each member holds after one more is put in, and the keys stay in order.
use Rattle.std.proofs.Common.{◌≡◌, ℕ, List, [], ◌∷◌, Option, Some, None, Ordering, Less, Equal, Greater, refl, ap, ◌∙◌}
use Rattle.std.specs.Ordering.{nat_cmp, match_ordering, ordering_reverse}
use Rattle.std.specs.Cmp.Lexicographic.{slice_cmp}
use Rattle.std.proofs.lemmas.Cmp.{nat_list_cmp_total}
use Rattle.serde_json.specs.Data.{Data, Members, no_members, member, put}
use Rattle.plugin_messages.specs.Writable.{WhereSome}
use Rattle.plugin_messages.specs.Written.{Field, put_if, with_fields}

abbrev pub EachMember : (Data → Type 0) → Members → Type 0
EachMember P no_members = Unit {0}
EachMember P (member k d ms) = P d × EachMember P ms

abbrev pub EachField : (Data → Type 0) → List Field → Type 0
EachField P [] = Unit {0}
EachField P (field ∷ fields) = WhereSome P field.1 × EachField P fields

abbrev pub EachKey : (List ℕ → Type 0) → Members → Type 0
EachKey P no_members = Unit {0}
EachKey P (member k d ms) = P k × EachKey P ms

abbrev pub EachLabel : (List ℕ → Type 0) → List Field → Type 0
EachLabel P [] = Unit {0}
EachLabel P (field ∷ fields) = P field.0 × EachLabel P fields

by_order : {A : Type 0} (P : A → Type 0) (o : Ordering) (x y z : A) → (o ≡ Less → P x) → (o ≡ Equal → P y) → (o ≡ Greater → P z) → P (match_ordering o x y z)
by_order P Less x y z a b c = a refl
by_order P Equal x y z a b c = b refl
by_order P Greater x y z a b c = c refl

each_put : (P : Data → Type 0) (k : List ℕ) (d : Data) (ms : Members) → P d → EachMember P ms → EachMember P (put k d ms)
each_put P k d no_members h each = (h, tt)
each_put P k d (member l e ms) h each =
    by_order (EachMember P) (slice_cmp nat_cmp k l) (member k d (member l e ms)) (member l d ms) (member l e (put k d ms))
    (λ o. (h, each)) (λ o. (h, each.1)) (λ o. (each.0, each_put P k d ms h each.1))

keys_put : (P : List ℕ → Type 0) (k : List ℕ) (d : Data) (ms : Members) → P k → EachKey P ms → EachKey P (put k d ms)
keys_put P k d no_members h keys = (h, tt)
keys_put P k d (member l e ms) h keys =
    by_order (EachKey P) (slice_cmp nat_cmp k l) (member k d (member l e ms)) (member l d ms) (member l e (put k d ms))
    (λ o. (h, keys)) (λ o. keys) (λ o. (keys.0, keys_put P k d ms h keys.1))

-- k comes before each key
abbrev pub IsBelow : List ℕ → Members → Type 0
IsBelow k no_members = Unit {0}
IsBelow k (member l e ms) = (slice_cmp nat_cmp k l ≡ Less) × IsBelow k ms

abbrev pub AreInOrder : Members → Type 0
AreInOrder no_members = Unit {0}
AreInOrder (member k d ms) = IsBelow k ms × AreInOrder ms

below_put : (j k : List ℕ) (d : Data) (ms : Members) → slice_cmp nat_cmp j k ≡ Less → IsBelow j ms → IsBelow j (put k d ms)
below_put j k d no_members h below = (h, tt)
below_put j k d (member l e ms) h below =
    by_order (IsBelow j) (slice_cmp nat_cmp k l) (member k d (member l e ms)) (member l d ms) (member l e (put k d ms))
    (λ o. (h, below)) (λ o. below) (λ o. (below.0, below_put j k d ms h below.1))

further_below : (j k : List ℕ) (ms : Members) → slice_cmp nat_cmp j k ≡ Less → IsBelow k ms → IsBelow j ms
further_below j k no_members h below = tt
further_below j k (member l e ms) h below = (nat_list_cmp_total.trans j k l h below.0, further_below j k ms h below.1)

reversed : (k l : List ℕ) → slice_cmp nat_cmp k l ≡ Greater → slice_cmp nat_cmp l k ≡ Less
reversed k l o = nat_list_cmp_total.antisymm l k ∙ ap ordering_reverse o

order_put : (k : List ℕ) (d : Data) (ms : Members) → AreInOrder ms → AreInOrder (put k d ms)
order_put k d no_members h = (tt, tt)
order_put k d (member l e ms) h =
    by_order AreInOrder (slice_cmp nat_cmp k l) (member k d (member l e ms)) (member l d ms) (member l e (put k d ms))
    (λ o. ((o, further_below k l ms o h.0), h)) (λ o. h) (λ o. (below_put l k d ms (reversed k l o) h.0, order_put k d ms h.1))

-- the same for all fields of an object

pub each_with_fields : (P : Data → Type 0) (fields : List Field) (ms : Members) → EachField P fields → EachMember P ms → EachMember P (with_fields fields ms)
each_with_fields P [] ms h each = each
each_with_fields P (field ∷ fields) ms h each = each_with_fields P fields (put_if field.0 field.1 ms) h.1 (one field.1 h.0)
  where
    one : (o : Option Data) → WhereSome P o → EachMember P (put_if field.0 o ms)
    one None w = each
    one (Some d) w = each_put P field.0 d ms w each

pub order_with_fields : (fields : List Field) (ms : Members) → AreInOrder ms → AreInOrder (with_fields fields ms)
order_with_fields [] ms h = h
order_with_fields (field ∷ fields) ms h = order_with_fields fields (put_if field.0 field.1 ms) (one field.1)
  where
    one : (o : Option Data) → AreInOrder (put_if field.0 o ms)
    one None = h
    one (Some d) = order_put field.0 d ms h

pub keys_with_fields : (P : List ℕ → Type 0) (fields : List Field) (ms : Members) → EachLabel P fields → EachKey P ms → EachKey P (with_fields fields ms)
keys_with_fields P [] ms h keys = keys
keys_with_fields P (field ∷ fields) ms h keys = keys_with_fields P fields (put_if field.0 field.1 ms) h.1 (one field.1)
  where
    one : (o : Option Data) → EachKey P (put_if field.0 o ms)
    one None = keys
    one (Some d) = keys_put P field.0 d ms h.0 keys
