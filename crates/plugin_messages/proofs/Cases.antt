-- The only member of an object, from its entries; and payloads that are UTF-8 or not.
use Rattle.std.proofs.Common.{◌≡◌, ℕ, List, [], ◌∷◌, length, Bool, true, false, Option, Some, None, refl, ap, arith, String, Global, string_bytes, slice_get, if◌then◌else◌}
use Rattle.std.specs.Str.{IsUtf8, is_utf8}
use Rattle.std.proofs.lemmas.Str.{IsUtf8-from_is_utf8, is_utf8-from_IsUtf8}
use Rattle.serde_json.specs.Data.{Data}
use Rattle.serde_json.specs.Read.{read}
use Rattle.serde_json.specs.View.{view, members_view}
use Rattle.serde_json.specs.declared.value.Value.{Value}
use Rattle.plugin_messages.specs.HostOf.{json_of, sole, Case}

abbrev Entry : Type 0
Entry = String Global × Value

pub sole_of_one : (es : List Entry) (e : Entry) → length es ≡ 1 → slice_get es 0 ≡ Some e → sole (members_view es) ≡ Some (string_bytes e.0, view e.1)
sole_of_one [] e one first = absurd (omega arith)
sole_of_one (f ∷ []) e one first = let same : f ≡ e = cc in let shown : Entry → Option Case = λ x. Some (string_bytes x.0, view x.1) in ap shown same
sole_of_one (f ∷ g ∷ es) e one first = absurd (omega arith)

pub sole_of_others : (es : List Entry) → (length es ≡ 1 → ⊥) → sole (members_view es) ≡ None
sole_of_others [] other = refl
sole_of_others (f ∷ []) other = absurd (other refl)
sole_of_others (f ∷ g ∷ es) other = refl

chosen : (b : Bool) (o : Option Data) → b ≡ true → (if b then o else None) ≡ o
chosen true o e = refl
chosen false o e = cc

left_out : (b : Bool) (o : Option Data) → (b ≡ true → ⊥) → (if b then o else None) ≡ None
left_out true o n = absurd (n refl)
left_out false o n = refl

pub json_of_utf8 : (payload : List ℕ) → IsUtf8 payload → json_of payload ≡ read payload
unfolding json_of
json_of_utf8 payload h = chosen (is_utf8 payload) (read payload) (is_utf8-from_IsUtf8 payload h)

pub json_of_other_bytes : (payload : List ℕ) → ¬ IsUtf8 payload → json_of payload ≡ None
unfolding json_of
json_of_other_bytes payload n = left_out (is_utf8 payload) (read payload) (λ e. n (IsUtf8-from_is_utf8 payload e))
