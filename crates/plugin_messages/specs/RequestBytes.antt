-- this project's own, after swift-syntax: the bytes that the host sends.
use Rattle.std.specs.Prelude.{ℕ, pos, List, [], ◌∷◌, Option, Some, option_map}
use Rattle.serde_json.specs.Data.{Data, string}
use Rattle.serde_json.specs.Written.{compact_text}
use Rattle.unique_names.specs.declared.role.Role.{Role}
use Rattle.unique_names.specs.Roles.{text_of}
use Rattle.unique_names.specs.Names.{discriminator_of}
use Rattle.plugin_messages.specs.declared.request.MacroRef.{MacroRef}
use Rattle.plugin_messages.specs.declared.request.Request.{Request}
use Rattle.plugin_messages.specs.declared.request.Parts.{Parts}
use Rattle.plugin_messages.specs.declared.request.Parts.TheVariants.{Freestanding, Attached}
use Rattle.plugin_messages.specs.declared.message.HostMessage.{HostMessage}
use Rattle.plugin_messages.specs.declared.message.HostMessage.TheVariants.{GetCapability, Expand, LoadLibrary}
use Rattle.plugin_messages.specs.declared.labels.TheConstants.{GET_CAPABILITY, EXPAND_FREESTANDING_MACRO, EXPAND_ATTACHED_MACRO, LOAD_PLUGIN_LIBRARY}
use Rattle.plugin_messages.specs.declared.table.Shape.{Shape}
use Rattle.plugin_messages.specs.declared.table.Shape.TheVariants as shape
use Rattle.plugin_messages.specs.Written.{object_data, macro_data, syntax_data, capability_data, case_data}

-- the message of a request
abbrev pub host_of : Request → HostMessage
host_of request = Expand request.target request.role (discriminator_of request.key) request.parts

abbrev pub parts_case : Parts → List ℕ
parts_case (Freestanding syntax) = EXPAND_FREESTANDING_MACRO.now
parts_case (Attached attribute decl parent extended conformances) = EXPAND_ATTACHED_MACRO.now

abbrev pub parts_shape : Parts → Shape
parts_shape (Freestanding syntax) = shape.Freestanding
parts_shape (Attached attribute decl parent extended conformances) = shape.Attached

abbrev pub parts_values : Parts → List (Option Data)
parts_values (Freestanding syntax) = Some (syntax_data syntax) ∷ []
parts_values (Attached attribute decl parent extended conformances) =
    Some (syntax_data attribute) ∷
    Some (syntax_data decl) ∷
    option_map syntax_data parent ∷
    option_map syntax_data extended ∷
    option_map syntax_data conformances ∷ []

abbrev pub expand_values : MacroRef → Role → List ℕ → Parts → List (Option Data)
expand_values target role discriminator parts =
    Some (macro_data target) ∷
    Some (string (text_of role)) ∷
    Some (string discriminator) ∷ parts_values parts

abbrev pub expand_data : MacroRef → Role → List ℕ → Parts → Data
expand_data target role discriminator parts = object_data (parts_shape parts) (expand_values target role discriminator parts)

abbrev pub load_data : List ℕ → List ℕ → Data
load_data path name = object_data shape.Load (Some (string path) ∷ Some (string name) ∷ [])

unfoldable pub host_data : HostMessage → Data
host_data (GetCapability version) = case_data GET_CAPABILITY.now (capability_data version)
host_data (Expand target role discriminator parts) = case_data (parts_case parts) (expand_data target role discriminator parts)
host_data (LoadLibrary path name) = case_data LOAD_PLUGIN_LIBRARY.now (load_data path name)

-- the payload of a host message
unfoldable pub host_payload_of : HostMessage → List ℕ
host_payload_of message = compact_text (host_data message)

-- the first message to each process
abbrev pub greeting : HostMessage
greeting = GetCapability (pos 7)
