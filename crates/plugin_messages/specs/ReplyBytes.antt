-- this project's own, after swift-syntax: the bytes that a plug-in sends.
use Rattle.std.specs.Prelude.{ℕ, List, [], ◌∷◌, Bool, Option, Some, option_map}
use Rattle.serde_json.specs.Data.{Data, string, boolean}
use Rattle.serde_json.specs.Written.{compact_text}
use Rattle.plugin_messages.specs.declared.message.Diagnostic.{Diagnostic}
use Rattle.plugin_messages.specs.declared.message.PluginMessage.{PluginMessage}
use Rattle.plugin_messages.specs.declared.message.PluginMessage.TheVariants as plugin
use Rattle.plugin_messages.specs.declared.labels.TheConstants.{GET_CAPABILITY_RESULT, EXPAND_MACRO_RESULT, LOAD_PLUGIN_LIBRARY_RESULT}
use Rattle.plugin_messages.specs.declared.table.Shape.TheVariants as shape
use Rattle.plugin_messages.specs.Written.{object_data, array_of, diagnostic_data, capability_data, case_data}

abbrev pub reply_data : Option (List ℕ) → List Diagnostic → Data
reply_data text diagnostics = object_data shape.Reply (option_map string text ∷ Some (array_of diagnostic_data diagnostics) ∷ [])

abbrev pub loading_data : Bool → List Diagnostic → Data
loading_data loaded diagnostics = object_data shape.Loading (Some (boolean loaded) ∷ Some (array_of diagnostic_data diagnostics) ∷ [])

unfoldable pub plugin_data : PluginMessage → Data
plugin_data (plugin.Capability version) = case_data GET_CAPABILITY_RESULT.now (capability_data version)
plugin_data (plugin.Result text diagnostics) = case_data EXPAND_MACRO_RESULT.now (reply_data text diagnostics)
plugin_data (plugin.Loaded loaded diagnostics) = case_data LOAD_PLUGIN_LIBRARY_RESULT.now (loading_data loaded diagnostics)

-- the payload of a plug-in message
unfoldable pub plugin_payload_of : PluginMessage → List ℕ
plugin_payload_of message = compact_text (plugin_data message)
