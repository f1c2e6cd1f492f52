-- What is written at a label is taken again.
use Rattle.std.proofs.Common.{◌≡◌, ℕ, suc, ◌<◌, ◌^◌, ℤ, pos, List, [], ◌∷◌, map, Option, Some, None, option_map, option_and_then, true, refl, ap, ◌∙◌, arith}
use Rattle.std.specs.List.{All}
use Rattle.serde_json.specs.Data.{Data, string, number, unsigned, no_items, no_members}
use Rattle.serde_json.specs.Find.{as_str, as_array, of_integer}
use Rattle.serde_json.specs.View.{items_of}
use Rattle.plugin_messages.specs.declared.request.Location.{Location}
use Rattle.plugin_messages.specs.declared.request.Syntax.{Syntax}
use Rattle.plugin_messages.specs.declared.request.SyntaxKind.TheVariants.{Declaration}
use Rattle.plugin_messages.specs.declared.request.MacroRef.{MacroRef}
use Rattle.plugin_messages.specs.declared.message.Severity.TheVariants.{Error}
use Rattle.plugin_messages.specs.declared.message.Diagnostic.{Diagnostic}
use Rattle.plugin_messages.specs.declared.message.Note.{Note}
use Rattle.plugin_messages.specs.declared.labels.TheConstants.{CAPABILITY, PROTOCOL_VERSION, KIND, SOURCE, LOCATION, MESSAGE, SEVERITY, POSITION, FILE_NAME, OFFSET, NOTES, DIAGNOSTICS}
use Rattle.plugin_messages.specs.declared.table.Shape.{Shape}
use Rattle.plugin_messages.specs.declared.table.Shape.TheVariants as shape
use Rattle.plugin_messages.specs.Tables.{kind_text, severity_text}
use Rattle.plugin_messages.specs.Fields.{present, unless_null, whole_below, version_in, kind_in, severity_in, list_of}
use Rattle.plugin_messages.specs.Rows.{rows_of}
use Rattle.plugin_messages.specs.Taken.{taken, text_if, inside, items_at}
use Rattle.plugin_messages.specs.RequestParts.{location_of, syntax_of, macro_of}
use Rattle.plugin_messages.specs.Diagnostics.{note_of, diagnostic_of, diagnostics_of}
use Rattle.plugin_messages.specs.HostOf.{capability_of}
use Rattle.plugin_messages.specs.Writable.{WhereSome, IsNoteWritable, IsDiagnosticWritable}
use Rattle.plugin_messages.specs.RoundTrip.{IsLocationInRange, IsSyntaxInRange, IsVersion}
use Rattle.plugin_messages.specs.Written.{labelled, object_data, array_of, location_values, location_data, syntax_values, syntax_data, macro_data, version_data, capability_data, note_values, note_data, diagnostic_values, diagnostic_data}
use Rattle.plugin_messages.proofs.Checks.{list_of_items_of}
use Rattle.plugin_messages.proofs.Lookup.{lookup, chosen, member_found}
use Rattle.plugin_messages.proofs.Passing.{within, kind_read, severity_read, version_read, version_there}

-- the value that the object has at a label
abbrev pub at_label : List ℕ → Shape → List (Option Data) → Option Data
at_label k s values = lookup k (labelled (rows_of s) values) None

present_in : (k : List ℕ) (s : Shape) (values : List (Option Data)) → present k (object_data s values) ≡ option_and_then unless_null (at_label k s values)
unfolding object_data present
present_in k s values = ap (option_and_then unless_null) (member_found k (labelled (rows_of s) values) no_members)

object_there : (s : Shape) (values : List (Option Data)) → unless_null (object_data s values) ≡ Some (object_data s values)
unfolding object_data
object_there s values = refl

pub taken_in : {A : Type 0} (take : Data → Option A) (other : A) (k : List ℕ) (s : Shape) (values : List (Option Data)) (d : Data) (x : A)
    → at_label k s values ≡ Some d → unless_null d ≡ Some d → take d ≡ Some x → taken take other k (object_data s values) ≡ x
unfolding taken
taken_in take other k s values d x e there h = rw (present_in k s values, e, there, h) refl

pub text_in : (k : List ℕ) (s : Shape) (values : List (Option Data)) (t : List ℕ) → at_label k s values ≡ Some (string t) → taken as_str [] k (object_data s values) ≡ t
text_in k s values t e = taken_in as_str [] k s values (string t) t e refl refl

pub text_if_in : (k : List ℕ) (s : Shape) (values : List (Option Data)) (o : Option (List ℕ)) → at_label k s values ≡ chosen true (option_map string o) None → text_if k (object_data s values) ≡ o
unfolding text_if
text_if_in k s values None e = rw (present_in k s values, e) refl
text_if_in k s values (Some t) e = rw (present_in k s values, e) refl

pub inside_in : (k : List ℕ) (s : Shape) (values : List (Option Data)) (inner : Shape) (found : List (Option Data)) → at_label k s values ≡ Some (object_data inner found) → inside k (object_data s values) ≡ object_data inner found
unfolding inside
inside_in k s values inner found e = rw (present_in k s values, e, object_there inner found) refl

pub present_if : {A : Type 0} (k : List ℕ) (s : Shape) (values : List (Option Data)) (inner : Shape) (write : A → List (Option Data)) (o : Option A)
    → at_label k s values ≡ chosen true (option_map (λ x. object_data inner (write x)) o) None → present k (object_data s values) ≡ option_map (λ x. object_data inner (write x)) o
present_if k s values inner write None e = rw (present_in k s values, e) refl
present_if k s values inner write (Some x) e = rw (present_in k s values, e, object_there inner (write x)) refl

array_there : {A : Type 0} (write : A → Data) (xs : List A) → unless_null (array_of write xs) ≡ Some (array_of write xs)
unfolding array_of
array_there write xs = refl

array_read : {A : Type 0} (write : A → Data) (xs : List A) → as_array (array_of write xs) ≡ Some (items_of (map write xs))
unfolding array_of
array_read write xs = refl

pub items_in : {A : Type 0} (k : List ℕ) (s : Shape) (values : List (Option Data)) (write : A → Data) (xs : List A) → at_label k s values ≡ Some (array_of write xs) → items_at k (object_data s values) ≡ map write xs
unfolding items_at
items_in k s values write xs e = ap list_of (taken_in as_array no_items k s values (array_of write xs) (items_of (map write xs)) e (array_there write xs) (array_read write xs)) ∙ list_of_items_of (map write xs)

pub read_if : {A : Type 0} (P : A → Type 0) (of : Data → A) (write : A → Data) → ((x : A) → P x → of (write x) ≡ x) → (o : Option A) → WhereSome P o → option_map of (option_map write o) ≡ o
read_if P of write each None h = refl
read_if P of write each (Some x) h = ap Some (each x h)

read_each : {A : Type 0} (P : A → Type 0) (of : Data → A) (write : A → Data) → ((x : A) → P x → of (write x) ≡ x) → (xs : List A) → All P xs → map of (map write xs) ≡ xs
read_each P of write each [] all = refl
read_each P of write each (x ∷ xs) all = rw (each x (all 0 x (omega arith)), read_each P of write each xs (λ k d h. all (suc k) d (omega arith))) refl

whole_read : (limit x : ℕ) → x < limit → whole_below limit (number (unsigned x)) ≡ Some x
unfolding whole_below
whole_read limit x h = within x limit x h

-- ---- requests

location_read : (l : Location) → IsLocationInRange l → location_of (location_data l) ≡ l
unfolding location_of object_data rows_of taken present whole_below
location_read l r = rw (within l.offset (2 ^ 32) l.offset r.offset, within l.line (2 ^ 32) l.line r.line, within l.column (2 ^ 32) l.column r.column) refl

pub macro_read : (m : MacroRef) → macro_of (macro_data m) ≡ m
unfolding macro_of object_data rows_of taken present
macro_read m = refl

pub syntax_read : (s : Syntax) → IsSyntaxInRange s → syntax_of (syntax_data s) ≡ s
unfolding syntax_of rows_of
syntax_read s r =
    rw (
      taken_in kind_in Declaration KIND.now shape.Syntax (syntax_values s) (string (kind_text s.kind)) s.kind refl refl (kind_read s.kind),
      text_in SOURCE.now shape.Syntax (syntax_values s) s.source refl,
      present_if LOCATION.now shape.Syntax (syntax_values s) shape.Location location_values s.location refl,
      read_if IsLocationInRange location_of location_data location_read s.location r,
    ) refl

pub capability_read : (z : ℤ) → IsVersion z → capability_of (capability_data z) ≡ z
unfolding capability_of rows_of
capability_read z r =
    rw (
      inside_in CAPABILITY.now shape.Greeting (Some (version_data z) ∷ []) shape.Capability (Some (number (of_integer z)) ∷ []) refl,
      taken_in version_in (pos 0) PROTOCOL_VERSION.now shape.Capability (Some (number (of_integer z)) ∷ []) (number (of_integer z)) z refl (version_there z) (version_read z r),
    ) refl

-- ---- replies

note_read : (n : Note) → IsNoteWritable n → note_of (note_data n) ≡ n
unfolding note_of rows_of
note_read n w =
    let position = Some (string n.file_name) ∷ Some (number (unsigned n.offset)) ∷ [] in
    rw (
      text_in MESSAGE.now shape.Note (note_values n) n.message refl,
      inside_in POSITION.now shape.Note (note_values n) shape.Position position refl,
      text_in FILE_NAME.now shape.Position position n.file_name refl,
      taken_in (whole_below (2 ^ 63)) 0 OFFSET.now shape.Position position (number (unsigned n.offset)) n.offset refl refl (whole_read (2 ^ 63) n.offset w.offset),
    ) refl

diagnostic_read : (d : Diagnostic) → IsDiagnosticWritable d → diagnostic_of (diagnostic_data d) ≡ d
unfolding diagnostic_of rows_of
diagnostic_read d w =
    let position = Some (string d.file_name) ∷ Some (number (unsigned d.offset)) ∷ [] in
    rw (
      text_in MESSAGE.now shape.Diagnostic (diagnostic_values d) d.message refl,
      taken_in severity_in Error SEVERITY.now shape.Diagnostic (diagnostic_values d) (string (severity_text d.severity)) d.severity refl refl (severity_read d.severity),
      inside_in POSITION.now shape.Diagnostic (diagnostic_values d) shape.Position position refl,
      text_in FILE_NAME.now shape.Position position d.file_name refl,
      taken_in (whole_below (2 ^ 63)) 0 OFFSET.now shape.Position position (number (unsigned d.offset)) d.offset refl refl (whole_read (2 ^ 63) d.offset w.offset),
      items_in NOTES.now shape.Diagnostic (diagnostic_values d) note_data d.notes refl,
      read_each IsNoteWritable note_of note_data note_read d.notes w.notes,
    ) refl

pub diagnostics_read : (s : Shape) (values : List (Option Data)) (ds : List Diagnostic) → at_label DIAGNOSTICS.now s values ≡ Some (array_of diagnostic_data ds) → All IsDiagnosticWritable ds → diagnostics_of (object_data s values) ≡ ds
unfolding diagnostics_of
diagnostics_read s values ds e all = ap (map diagnostic_of) (items_in DIAGNOSTICS.now s values diagnostic_data ds e) ∙ read_each IsDiagnosticWritable diagnostic_of diagnostic_data diagnostic_read ds all
