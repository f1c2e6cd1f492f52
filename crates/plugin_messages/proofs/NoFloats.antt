-- No message has a float.
use Rattle.std.proofs.Common.{◌≡◌, ℕ, ℤ, pos, negsuc, List, [], ◌∷◌, map, Option, Some, None, option_map, false, ◌||◌, refl}
use Rattle.serde_json.specs.Data.{Data, number, string, Members, no_members, member}
use Rattle.serde_json.specs.View.{items_of}
use Rattle.serde_json.specs.Find.{of_integer}
use Rattle.serde_json.specs.Written.{has_float, items_have_float, members_have_float}
use Rattle.plugin_messages.specs.declared.request.Location.{Location}
use Rattle.plugin_messages.specs.declared.request.Syntax.{Syntax}
use Rattle.plugin_messages.specs.declared.request.MacroRef.{MacroRef}
use Rattle.plugin_messages.specs.declared.request.Parts.{Parts}
use Rattle.plugin_messages.specs.declared.request.Parts.TheVariants.{Freestanding, Attached}
use Rattle.plugin_messages.specs.declared.message.HostMessage.{HostMessage}
use Rattle.plugin_messages.specs.declared.message.HostMessage.TheVariants.{GetCapability, Expand, LoadLibrary}
use Rattle.plugin_messages.specs.declared.message.PluginMessage.{PluginMessage}
use Rattle.plugin_messages.specs.declared.message.PluginMessage.TheVariants as plugin
use Rattle.plugin_messages.specs.declared.message.Diagnostic.{Diagnostic}
use Rattle.plugin_messages.specs.declared.message.Note.{Note}
use Rattle.plugin_messages.specs.Writable.{WhereSome}
use Rattle.plugin_messages.specs.declared.table.Shape.{Shape}
use Rattle.plugin_messages.specs.Rows.{rows_of}
use Rattle.plugin_messages.specs.Written.{object_data, array_of, labelled, location_data, syntax_data, macro_data, capability_data, position_data, note_data, diagnostic_data, case_data}
use Rattle.plugin_messages.specs.RequestBytes.{parts_values, parts_shape, host_data}
use Rattle.plugin_messages.specs.ReplyBytes.{plugin_data}
use Rattle.plugin_messages.proofs.Members.{EachMember, each_with_fields}
use Rattle.plugin_messages.proofs.Lookup.{EachValue, fields_each}

abbrev NoFloat : Data → Type 0
NoFloat d = has_float d ≡ false

members_without : (ms : Members) → EachMember NoFloat ms → members_have_float ms ≡ false
members_without no_members each = refl
members_without (member k d ms) each = λ i. each.0 i || members_without ms each.1 i

object_without : (s : Shape) (values : List (Option Data)) → EachValue NoFloat values → NoFloat (object_data s values)
unfolding object_data
object_without s values each = members_without _ (each_with_fields NoFloat (labelled (rows_of s) values) no_members (fields_each NoFloat (rows_of s) values each) tt)

array_without : {A : Type 0} (write : A → Data) → ((x : A) → NoFloat (write x)) → (xs : List A) → NoFloat (array_of write xs)
unfolding array_of
array_without write each [] = refl
array_without {A = A} write each (x ∷ xs) = λ i. each x i || rest xs i
  where
    rest : (xs : List A) → items_have_float (items_of (map write xs)) ≡ false
    rest [] = refl
    rest (x ∷ xs) = λ i. each x i || rest xs i

where_some : {A : Type 0} (write : A → Data) → ((x : A) → NoFloat (write x)) → (o : Option A) → WhereSome NoFloat (option_map write o)
where_some write each None = tt
where_some write each (Some x) = each x

integer_without : (z : ℤ) → NoFloat (number (of_integer z))
integer_without (pos n) = refl
integer_without (negsuc n) = refl

location_without : (l : Location) → NoFloat (location_data l)
location_without l = object_without _ _ (refl, (refl, (refl, (refl, (refl, tt)))))

syntax_without : (s : Syntax) → NoFloat (syntax_data s)
syntax_without s = object_without _ _ (refl, (refl, (where_some location_data location_without s.location, tt)))

macro_without : (m : MacroRef) → NoFloat (macro_data m)
macro_without m = object_without _ _ (refl, (refl, (refl, tt)))

capability_without : (z : ℤ) → NoFloat (capability_data z)
capability_without z = object_without _ _ (object_without _ _ (integer_without z, tt), tt)

position_without : (file_name : List ℕ) (offset : ℕ) → NoFloat (position_data file_name offset)
position_without file_name offset = object_without _ _ (refl, (refl, tt))

note_without : (n : Note) → NoFloat (note_data n)
note_without n = object_without _ _ (refl, (position_without n.file_name n.offset, tt))

diagnostic_without : (d : Diagnostic) → NoFloat (diagnostic_data d)
diagnostic_without d = object_without _ _ (refl, (refl, (position_without d.file_name d.offset, (refl, (array_without note_data note_without d.notes, (refl, tt))))))

case_without : (name : List ℕ) (labels : Data) → NoFloat labels → NoFloat (case_data name labels)
unfolding case_data
case_without name labels h = members_without (member name labels no_members) (h, tt)

parts_without : (p : Parts) → EachValue NoFloat (parts_values p)
parts_without (Freestanding s) = (syntax_without s, tt)
parts_without (Attached a d p e c) =
    (syntax_without a, (syntax_without d, (where_some syntax_data syntax_without p, (where_some syntax_data syntax_without e, (where_some syntax_data syntax_without c, tt)))))

pub host_without : (m : HostMessage) → has_float (host_data m) ≡ false
unfolding host_data
host_without (GetCapability v) = case_without _ _ (capability_without v)
host_without (Expand t r d p) = case_without _ _ (object_without (parts_shape p) _ (macro_without t, (refl, (refl, parts_without p))))
host_without (LoadLibrary p n) = case_without _ _ (object_without _ _ (refl, (refl, tt)))

pub plugin_without : (m : PluginMessage) → has_float (plugin_data m) ≡ false
unfolding plugin_data
plugin_without (plugin.Capability v) = case_without _ _ (capability_without v)
plugin_without (plugin.Result t ds) = case_without _ _ (object_without _ _ (text_if t, (array_without diagnostic_data diagnostic_without ds, tt)))
  where
    text_if : (t : Option (List ℕ)) → WhereSome NoFloat (option_map string t)
    text_if None = tt
    text_if (Some s) = refl
plugin_without (plugin.Loaded b ds) = case_without _ _ (object_without _ _ (refl, (array_without diagnostic_data diagnostic_without ds, tt)))
