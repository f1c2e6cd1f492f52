-- this project's own, after swift-syntax: the host message that a payload spells, or the first reason why it spells none.
use Rattle.std.specs.Prelude.{◌≡◌, ℕ, ℤ, List, Option, Some, None, option_map, option_and_then, Result, Err, if◌then◌else◌}
use Rattle.std.specs.Str.{bytes_eq, is_utf8}
use Rattle.serde_json.specs.Data.{Data, Members, no_members, member}
use Rattle.serde_json.specs.Read.{read}
use Rattle.serde_json.specs.Find.{as_object}
use Rattle.plugin_messages.specs.declared.message.HostMessage.{HostMessage}
use Rattle.plugin_messages.specs.declared.message.HostMessage.TheVariants.{GetCapability, Expand, LoadLibrary}
use Rattle.plugin_messages.specs.declared.request.Parts.{Parts}
use Rattle.plugin_messages.specs.declared.message.Reason.{Reason}
use Rattle.plugin_messages.specs.declared.message.Reason.TheVariants.{NotJson, NoCase, UnknownCase}
use Rattle.plugin_messages.specs.declared.labels.TheConstants.{GET_CAPABILITY, EXPAND_FREESTANDING_MACRO, EXPAND_ATTACHED_MACRO, LOAD_PLUGIN_LIBRARY, CAPABILITY, PROTOCOL_VERSION, MACRO, MACRO_ROLE, DISCRIMINATOR, LIBRARY_PATH, MODULE_NAME}
use Rattle.plugin_messages.specs.Answers.{and_then}
use Rattle.plugin_messages.specs.declared.table.Shape.TheVariants as shape
use Rattle.plugin_messages.specs.Fields.{found_or, as_record}
use Rattle.plugin_messages.specs.Checked.{checked_as}
use Rattle.plugin_messages.specs.Taken.{text_at, version_at, role_at, inside}
use Rattle.plugin_messages.specs.RequestParts.{macro_of, freestanding_of, attached_of}

-- the JSON value of a payload, where it is UTF-8 and JSON
unfoldable pub json_of : List ℕ → Option Data
json_of payload = if is_utf8 payload then read payload else None

-- a case: its name, and the object of its labels
abbrev pub Case : Type 0
Case = List ℕ × Data

-- the only member
abbrev pub sole : Members → Option Case
sole no_members = None
sole (member name d no_members) = Some (name, d)
sole (member name d (member other e more)) = None

abbrev pub of_object : Case → Option Case
of_object case = option_map (λ labels. (case.0, labels)) (as_record case.1)

unfoldable pub case_of : Data → Option Case
case_of d = option_and_then of_object (option_and_then sole (as_object d))

-- the message of a payload, its case and labels read by `from`
abbrev pub message_from : {A : Type 0} → (List ℕ → Data → Result A Reason) → List ℕ → Result A Reason
message_from from payload =
    and_then (found_or NotJson (json_of payload)) (λ d.
    and_then (found_or NoCase (case_of d)) (λ case. from case.0 case.1))

-- the version that a side announces
unfoldable pub capability_of : Data → ℤ
capability_of d = version_at PROTOCOL_VERSION.now (inside CAPABILITY.now d)

unfoldable pub expand_of : (Data → Parts) → Data → HostMessage
expand_of parts_of d = Expand (macro_of (inside MACRO.now d)) (role_at MACRO_ROLE.now d) (text_at DISCRIMINATOR.now d) (parts_of d)

unfoldable pub load_of : Data → HostMessage
load_of d = LoadLibrary (text_at LIBRARY_PATH.now d) (text_at MODULE_NAME.now d)

unfoldable pub host_case : List ℕ → Data → Result HostMessage Reason
host_case name d =
    if bytes_eq name GET_CAPABILITY.now then checked_as shape.Greeting d (GetCapability (capability_of d))
    else (if bytes_eq name EXPAND_FREESTANDING_MACRO.now then checked_as shape.Freestanding d (expand_of freestanding_of d)
    else (if bytes_eq name EXPAND_ATTACHED_MACRO.now then checked_as shape.Attached d (expand_of attached_of d)
    else (if bytes_eq name LOAD_PLUGIN_LIBRARY.now then checked_as shape.Load d (load_of d)
    else Err UnknownCase)))

unfoldable pub host_message_of : List ℕ → Result HostMessage Reason
host_message_of = message_from host_case

-- the message that the payload spells, or the first reason
abbrev pub HostOf : List ℕ → Result HostMessage Reason → Type 0
HostOf payload outcome = host_message_of payload ≡ outcome
