-- What is written of a message is read again as the message.
use Rattle.std.proofs.Common.{◌≡◌, Bool, true, false, ℕ, suc, ◌≤◌, List, [], ◌∷◌, Option, Some, option_map, Result, Ok, refl, ◌∙◌, arith}
use Rattle.std.specs.List.{All}
use Rattle.json.proofs.Printed.Utf8.{are_ascii, IsUtf8-are_ascii}
use Rattle.serde_json.specs.Data.{Data, string, boolean}
use Rattle.serde_json.specs.Read.{max_depth}
use Rattle.serde_json.specs.Find.{as_bool}
use Rattle.serde_json.specs.Written.{compact_text}
use Rattle.unique_names.specs.declared.role.Role.{Role}
use Rattle.unique_names.specs.declared.role.Role.TheVariants.{Expression}
use Rattle.unique_names.specs.Roles.{text_of}
use Rattle.plugin_messages.specs.declared.request.Syntax.{Syntax}
use Rattle.plugin_messages.specs.declared.request.MacroRef.{MacroRef}
use Rattle.plugin_messages.specs.declared.request.Parts.TheVariants.{Freestanding, Attached}
use Rattle.plugin_messages.specs.declared.message.HostMessage.TheVariants.{GetCapability, Expand, LoadLibrary}
use Rattle.plugin_messages.specs.declared.message.PluginMessage.TheVariants as plugin
use Rattle.plugin_messages.specs.declared.message.Diagnostic.{Diagnostic}
use Rattle.plugin_messages.specs.declared.message.Reason.{Reason}
use Rattle.plugin_messages.specs.declared.table.Shape.{Shape}
use Rattle.plugin_messages.specs.declared.table.Shape.TheVariants as shape
use Rattle.plugin_messages.specs.declared.labels.TheConstants.{GET_CAPABILITY, EXPAND_FREESTANDING_MACRO, EXPAND_ATTACHED_MACRO, LOAD_PLUGIN_LIBRARY, GET_CAPABILITY_RESULT, EXPAND_MACRO_RESULT, LOAD_PLUGIN_LIBRARY_RESULT, MACRO, MACRO_ROLE, DISCRIMINATOR, SYNTAX, ATTRIBUTE_SYNTAX, DECL_SYNTAX, PARENT_DECL_SYNTAX, EXTENDED_TYPE_SYNTAX, CONFORMANCE_LIST_SYNTAX, EXPANDED_SOURCE, LOADED}
use Rattle.plugin_messages.specs.RoundTrip.{HostReadsBack, PluginReadsBack, ArePartsInRange, IsSyntaxInRange}
use Rattle.plugin_messages.specs.Fields.{present, role_in}
use Rattle.plugin_messages.specs.Rows.{rows_of}
use Rattle.plugin_messages.specs.Taken.{taken}
use Rattle.plugin_messages.specs.RequestParts.{syntax_of, freestanding_of, attached_of}
use Rattle.plugin_messages.specs.HostOf.{json_of, case_of, message_from, expand_of, load_of, host_case, host_message_of}
use Rattle.plugin_messages.specs.PluginOf.{reply_of, loading_of, plugin_case, plugin_message_of}
use Rattle.plugin_messages.specs.Writable.{IsDiagnosticWritable}
use Rattle.plugin_messages.specs.Written.{object_data, array_of, macro_values, syntax_values, syntax_data, diagnostic_data, case_data}
use Rattle.plugin_messages.specs.ReplyBytes.{reply_data, loading_data, plugin_data, plugin_payload_of}
use Rattle.plugin_messages.specs.RequestBytes.{expand_values, expand_data, load_data, host_data, host_payload_of}
use Rattle.plugin_messages.proofs.Plain.{IsPlain, plain_object, text_read}
use Rattle.plugin_messages.proofs.Cases.{json_of_utf8}
use Rattle.plugin_messages.proofs.Passing.{ArePassing, plain_labels, values_pass, role_read}
use Rattle.plugin_messages.proofs.PartsPassing.{greeting_passing, freestanding_passing, attached_passing, load_passing, reply_passing, loading_passing}
use Rattle.plugin_messages.proofs.ReadParts.{taken_in, text_in, text_if_in, inside_in, present_if, read_if, macro_read, syntax_read, capability_read, diagnostics_read}

freestanding_read : (t : MacroRef) (r : Role) (d : List ℕ) (s : Syntax) → IsSyntaxInRange s → expand_of freestanding_of (expand_data t r d (Freestanding s)) ≡ Expand t r d (Freestanding s)
unfolding expand_of freestanding_of rows_of
freestanding_read t r d s w =
    let values = expand_values t r d (Freestanding s) in
    rw (
      inside_in MACRO.now shape.Freestanding values shape.Macro (macro_values t) refl,
      macro_read t,
      taken_in role_in Expression MACRO_ROLE.now shape.Freestanding values (string (text_of r)) r refl refl (role_read r),
      text_in DISCRIMINATOR.now shape.Freestanding values d refl,
      inside_in SYNTAX.now shape.Freestanding values shape.Syntax (syntax_values s) refl,
      syntax_read s w,
    ) refl

attached_read : (t : MacroRef) (r : Role) (d : List ℕ) (a b : Syntax) (p e c : Option Syntax) → ArePartsInRange (Attached a b p e c) → expand_of attached_of (expand_data t r d (Attached a b p e c)) ≡ Expand t r d (Attached a b p e c)
unfolding expand_of attached_of rows_of
attached_read t r d a b p e c w =
    let values = expand_values t r d (Attached a b p e c) in
    rw (
      inside_in MACRO.now shape.Attached values shape.Macro (macro_values t) refl,
      macro_read t,
      taken_in role_in Expression MACRO_ROLE.now shape.Attached values (string (text_of r)) r refl refl (role_read r),
      text_in DISCRIMINATOR.now shape.Attached values d refl,
      inside_in ATTRIBUTE_SYNTAX.now shape.Attached values shape.Syntax (syntax_values a) refl,
      syntax_read a w.0,
      inside_in DECL_SYNTAX.now shape.Attached values shape.Syntax (syntax_values b) refl,
      syntax_read b w.1,
      present_if PARENT_DECL_SYNTAX.now shape.Attached values shape.Syntax syntax_values p refl,
      read_if IsSyntaxInRange syntax_of syntax_data syntax_read p w.2,
      present_if EXTENDED_TYPE_SYNTAX.now shape.Attached values shape.Syntax syntax_values e refl,
      read_if IsSyntaxInRange syntax_of syntax_data syntax_read e w.3,
      present_if CONFORMANCE_LIST_SYNTAX.now shape.Attached values shape.Syntax syntax_values c refl,
      read_if IsSyntaxInRange syntax_of syntax_data syntax_read c w.4,
    ) refl

load_read : (path name : List ℕ) → load_of (load_data path name) ≡ LoadLibrary path name
unfolding load_of object_data rows_of taken present
load_read path name = refl

reply_read : (t : Option (List ℕ)) (ds : List Diagnostic) → All IsDiagnosticWritable ds → reply_of (reply_data t ds) ≡ plugin.Result t ds
unfolding reply_of rows_of
reply_read t ds all =
    let values = option_map string t ∷ Some (array_of diagnostic_data ds) ∷ [] in
    rw (text_if_in EXPANDED_SOURCE.now shape.Reply values t refl, diagnostics_read shape.Reply values ds refl all) refl

loading_read : (b : Bool) (ds : List Diagnostic) → All IsDiagnosticWritable ds → loading_of (loading_data b ds) ≡ plugin.Loaded b ds
unfolding loading_of rows_of
loading_read b ds all =
    let values = Some (boolean b) ∷ Some (array_of diagnostic_data ds) ∷ [] in
    rw (taken_in as_bool false LOADED.now shape.Loading values (boolean b) b refl refl refl, diagnostics_read shape.Loading values ds refl all) refl

-- ---- a payload

case_read : (name : List ℕ) (s : Shape) (values : List (Option Data)) → case_of (case_data name (object_data s values)) ≡ Some (name, object_data s values)
unfolding case_of case_data object_data
case_read name s values = refl

plain_case : (n : ℕ) (name : List ℕ) (labels : Data) → are_ascii name ≡ true → IsPlain n labels → IsPlain (suc n) (case_data name labels)
unfolding case_data
plain_case n name labels e p = plain_object n ((name, Some labels) ∷ []) (IsUtf8-are_ascii name e, tt) (p, tt)

json_read : (n : ℕ) (d : Data) → IsPlain n d → n ≤ max_depth → json_of (compact_text d) ≡ Some d
json_read n d p deep = json_of_utf8 (compact_text d) p.utf8 ∙ text_read n d p deep

message_read : {A : Type 0} (from : List ℕ → Data → Result A Reason) (n : ℕ) (name : List ℕ) (s : Shape) (values : List (Option Data)) (x : A)
    → are_ascii name ≡ true → ArePassing n 3 (rows_of s) values → suc (suc n) ≤ max_depth → from name (object_data s values) ≡ Ok x → message_from from (compact_text (case_data name (object_data s values))) ≡ Ok x
message_read from n name s values x e each deep h =
    rw (json_read (suc (suc n)) (case_data name (object_data s values)) (plain_case (suc n) name (object_data s values) e (plain_labels n 3 s values each)) deep, case_read name s values) h

pub host_read : HostReadsBack
unfolding host_message_of host_payload_of host_data host_case
host_read (GetCapability v) w r =
    let each = greeting_passing v r in
    message_read host_case 1 GET_CAPABILITY.now shape.Greeting _ (GetCapability v) refl each (omega arith) (rw (values_pass 1 3 shape.Greeting _ each, capability_read v r) refl)
host_read (Expand t k d (Freestanding s)) w r =
    let each = freestanding_passing t k d s w.0 w.1 w.2 r in
    message_read host_case 2 EXPAND_FREESTANDING_MACRO.now shape.Freestanding _ (Expand t k d (Freestanding s)) refl each (omega arith) (rw (values_pass 2 3 shape.Freestanding _ each, freestanding_read t k d s r) refl)
host_read (Expand t k d (Attached a b p e c)) w r =
    let each = attached_passing t k d a b p e c w.0 w.1 w.2 r in
    message_read host_case 2 EXPAND_ATTACHED_MACRO.now shape.Attached _ (Expand t k d (Attached a b p e c)) refl each (omega arith) (rw (values_pass 2 3 shape.Attached _ each, attached_read t k d a b p e c r) refl)
host_read (LoadLibrary path name) w r =
    let each = load_passing path name w.0 w.1 in
    message_read host_case 0 LOAD_PLUGIN_LIBRARY.now shape.Load _ (LoadLibrary path name) refl each (omega arith) (rw (values_pass 0 3 shape.Load _ each, load_read path name) refl)

pub plugin_read : PluginReadsBack
unfolding plugin_message_of plugin_payload_of plugin_data plugin_case
plugin_read (plugin.Capability v) w r =
    let each = greeting_passing v r in
    message_read plugin_case 1 GET_CAPABILITY_RESULT.now shape.Greeting _ (plugin.Capability v) refl each (omega arith) (rw (values_pass 1 3 shape.Greeting _ each, capability_read v r) refl)
plugin_read (plugin.Result t ds) w r =
    let each = reply_passing t ds w.0 w.1 in
    message_read plugin_case 5 EXPAND_MACRO_RESULT.now shape.Reply _ (plugin.Result t ds) refl each (omega arith) (rw (values_pass 5 3 shape.Reply _ each, reply_read t ds w.1) refl)
plugin_read (plugin.Loaded b ds) w r =
    let each = loading_passing b ds w in
    message_read plugin_case 5 LOAD_PLUGIN_LIBRARY_RESULT.now shape.Loading _ (plugin.Loaded b ds) refl each (omega arith) (rw (values_pass 5 3 shape.Loading _ each, loading_read b ds w) refl)
