-- Each object of a message passes, label by label.
use Rattle.std.proofs.Common.{ℕ, suc, ◌<◌, ◌^◌, ℤ, List, [], ◌∷◌, Option, Some, None, option_map, Bool, refl}
use Rattle.std.specs.Str.{IsUtf8}
use Rattle.std.specs.List.{All}
use Rattle.serde_json.specs.Data.{string, boolean}
use Rattle.unique_names.specs.declared.role.Role.{Role}
use Rattle.plugin_messages.specs.declared.request.Location.{Location}
use Rattle.plugin_messages.specs.declared.request.Syntax.{Syntax}
use Rattle.plugin_messages.specs.declared.request.MacroRef.{MacroRef}
use Rattle.plugin_messages.specs.declared.request.Parts.TheVariants.{Freestanding, Attached}
use Rattle.plugin_messages.specs.declared.message.Diagnostic.{Diagnostic}
use Rattle.plugin_messages.specs.declared.message.Note.{Note}
use Rattle.plugin_messages.specs.declared.labels.TheConstants.{LOCATION, PARENT_DECL_SYNTAX, EXTENDED_TYPE_SYNTAX, CONFORMANCE_LIST_SYNTAX, EXPANDED_SOURCE}
use Rattle.plugin_messages.specs.declared.table.Sort.TheVariants as sort
use Rattle.plugin_messages.specs.declared.table.Presence.TheVariants.{Optional}
use Rattle.plugin_messages.specs.declared.table.Shape.TheVariants as shape
use Rattle.plugin_messages.specs.Rows.{rows_of}
use Rattle.plugin_messages.specs.Writable.{WhereSome, IsLocationWritable, IsSyntaxWritable, IsMacroWritable, AreAttachedWritable, IsNoteWritable, IsDiagnosticWritable}
use Rattle.plugin_messages.specs.RoundTrip.{IsLocationInRange, IsSyntaxInRange, ArePartsInRange, IsVersion}
use Rattle.plugin_messages.specs.Written.{location_values, location_data, syntax_values, syntax_data, macro_values, macro_data, version_data, position_data, note_values, note_data, diagnostic_values, diagnostic_data, array_of}
use Rattle.plugin_messages.specs.RequestBytes.{expand_values}
use Rattle.plugin_messages.proofs.Passing.{IsPassing, IsRowPassing, ArePassing, object_passing, objects_passing, passing_if, text_passing, flag_passing, small_passing, offset_passing, version_passing, role_passing, kind_passing, severity_passing, empty_passing}

location_passing : (n depth : ℕ) (l : Location) → IsLocationWritable l → IsLocationInRange l → IsPassing (suc n) (suc depth) (sort.Object shape.Location) (location_data l)
unfolding rows_of
location_passing n depth l w r =
    object_passing n depth shape.Location (location_values l)
    (text_passing n depth l.file_id w.file_id, (text_passing n depth l.file_name w.file_name, (small_passing n depth l.offset r.offset, (small_passing n depth l.line r.line, (small_passing n depth l.column r.column, tt)))))

syntax_passing : (n depth : ℕ) (s : Syntax) → IsSyntaxWritable s → IsSyntaxInRange s → IsPassing (suc (suc n)) (suc (suc depth)) (sort.Object shape.Syntax) (syntax_data s)
unfolding rows_of
syntax_passing n depth s w r =
    object_passing (suc n) (suc depth) shape.Syntax (syntax_values s)
    (kind_passing (suc n) (suc depth) s.kind, (text_passing (suc n) (suc depth) s.source w.source, (located s.location w.location r, tt)))
  where
    located : (o : Option Location) → WhereSome IsLocationWritable o → WhereSome IsLocationInRange o → IsRowPassing (suc n) (suc depth) (LOCATION.now, sort.Object shape.Location, Optional) (option_map location_data o)
    located None w r = refl
    located (Some l) w r = location_passing n depth l w r

macro_passing : (n depth : ℕ) (m : MacroRef) → IsMacroWritable m → IsPassing (suc n) (suc depth) (sort.Object shape.Macro) (macro_data m)
unfolding rows_of
macro_passing n depth m w =
    object_passing n depth shape.Macro (macro_values m)
    (text_passing n depth m.module w.module_name, (text_passing n depth m.type_name w.type_name, (text_passing n depth m.name w.name, tt)))

syntax_if : (n depth : ℕ) (label : List ℕ) (o : Option Syntax) → WhereSome IsSyntaxWritable o → WhereSome IsSyntaxInRange o → IsRowPassing (suc (suc n)) (suc (suc depth)) (label, sort.Object shape.Syntax, Optional) (option_map syntax_data o)
syntax_if n depth label None w r = refl
syntax_if n depth label (Some s) w r = syntax_passing n depth s w r

-- ---- the labels of each case

pub greeting_passing : (z : ℤ) → IsVersion z → ArePassing 1 3 (rows_of shape.Greeting) (Some (version_data z) ∷ [])
unfolding rows_of
greeting_passing z r = (object_passing 0 2 shape.Capability _ (version_passing 0 2 z r, tt), tt)

pub freestanding_passing : (t : MacroRef) (r : Role) (d : List ℕ) (s : Syntax) → IsMacroWritable t → IsUtf8 d → IsSyntaxWritable s → IsSyntaxInRange s → ArePassing 2 3 (rows_of shape.Freestanding) (expand_values t r d (Freestanding s))
unfolding rows_of
freestanding_passing t r d s wt wd ws rs = (macro_passing 1 2 t wt, (role_passing 2 3 r, (text_passing 2 3 d wd, (syntax_passing 0 1 s ws rs, tt))))

pub attached_passing : (t : MacroRef) (r : Role) (d : List ℕ) (a b : Syntax) (p e c : Option Syntax) → IsMacroWritable t → IsUtf8 d → AreAttachedWritable a b p e c → ArePartsInRange (Attached a b p e c)
    → ArePassing 2 3 (rows_of shape.Attached) (expand_values t r d (Attached a b p e c))
unfolding rows_of
attached_passing t r d a b p e c wt wd w i = (
  macro_passing 1 2 t wt,
  (
    role_passing 2 3 r,
    (
      text_passing 2 3 d wd,
      (
        syntax_passing 0 1 a w.attribute_part i.0,
        (
          syntax_passing 0 1 b w.decl_part i.1,
          (syntax_if 0 1 PARENT_DECL_SYNTAX.now p w.parent_part i.2, (syntax_if 0 1 EXTENDED_TYPE_SYNTAX.now e w.extended_part i.3, (syntax_if 0 1 CONFORMANCE_LIST_SYNTAX.now c w.conformances_part i.4, tt))),
        ),
      ),
    ),
  ),
)

pub load_passing : (path name : List ℕ) → IsUtf8 path → IsUtf8 name → ArePassing 0 3 (rows_of shape.Load) (Some (string path) ∷ Some (string name) ∷ [])
unfolding rows_of
load_passing path name p m = (text_passing 0 3 path p, (text_passing 0 3 name m, tt))

-- ---- replies

position_passing : (n depth : ℕ) (file_name : List ℕ) (offset : ℕ) → IsUtf8 file_name → offset < 2 ^ 63 → IsPassing (suc n) (suc depth) (sort.Object shape.Position) (position_data file_name offset)
unfolding rows_of
position_passing n depth file_name offset u h = object_passing n depth shape.Position _ (text_passing n depth file_name u, (offset_passing n depth offset h, tt))

note_passing : (n depth : ℕ) (note : Note) → IsNoteWritable note → IsPassing (suc (suc n)) (suc (suc depth)) (sort.Object shape.Note) (note_data note)
unfolding rows_of
note_passing n depth note w =
    object_passing (suc n) (suc depth) shape.Note (note_values note)
    (text_passing (suc n) (suc depth) note.message w.message, (position_passing n depth note.file_name note.offset w.file_name w.offset, tt))

diagnostic_passing : (n depth : ℕ) (d : Diagnostic) → IsDiagnosticWritable d → IsPassing (suc (suc (suc (suc n)))) (suc (suc (suc depth))) (sort.Object shape.Diagnostic) (diagnostic_data d)
unfolding rows_of
diagnostic_passing n depth d w =
    object_passing (suc (suc (suc n))) (suc (suc depth)) shape.Diagnostic (diagnostic_values d) (
      text_passing _ _ d.message w.message,
      (
        severity_passing _ _ d.severity,
        (
          position_passing (suc (suc n)) (suc depth) d.file_name d.offset w.file_name w.offset,
          (empty_passing (suc (suc n)) _, (objects_passing IsNoteWritable (suc (suc n)) (suc (suc depth)) shape.Note note_data (note_passing n depth) d.notes w.notes, (empty_passing (suc (suc n)) _, tt))),
        ),
      ),
    )

diagnostics_passing : (ds : List Diagnostic) → All IsDiagnosticWritable ds → IsPassing 5 3 (sort.Objects shape.Diagnostic) (array_of diagnostic_data ds)
diagnostics_passing ds each = objects_passing IsDiagnosticWritable 4 3 shape.Diagnostic diagnostic_data (diagnostic_passing 0 0) ds each

pub reply_passing : (t : Option (List ℕ)) (ds : List Diagnostic) → WhereSome IsUtf8 t → All IsDiagnosticWritable ds → ArePassing 5 3 (rows_of shape.Reply) (option_map string t ∷ Some (array_of diagnostic_data ds) ∷ [])
unfolding rows_of
reply_passing t ds w each = (passing_if IsUtf8 5 3 EXPANDED_SOURCE.now sort.Text string (text_passing 5 3) t w, (diagnostics_passing ds each, tt))

pub loading_passing : (b : Bool) (ds : List Diagnostic) → All IsDiagnosticWritable ds → ArePassing 5 3 (rows_of shape.Loading) (Some (boolean b) ∷ Some (array_of diagnostic_data ds) ∷ [])
unfolding rows_of
loading_passing b ds each = (flag_passing 5 3 b, (diagnostics_passing ds each, tt))
