-- this project's own, after swift-syntax: the plug-in message that a payload spells, or the first reason why it spells none.
use Rattle.std.specs.Prelude.{◌≡◌, ℕ, List, Result, Err, if◌then◌else◌}
use Rattle.std.specs.Str.{bytes_eq}
use Rattle.serde_json.specs.Data.{Data}
use Rattle.plugin_messages.specs.declared.message.PluginMessage.{PluginMessage}
use Rattle.plugin_messages.specs.declared.message.PluginMessage.TheVariants as plugin
use Rattle.plugin_messages.specs.declared.message.Reason.{Reason}
use Rattle.plugin_messages.specs.declared.message.Reason.TheVariants.{UnknownCase}
use Rattle.plugin_messages.specs.declared.labels.TheConstants.{GET_CAPABILITY_RESULT, EXPAND_MACRO_RESULT, LOAD_PLUGIN_LIBRARY_RESULT, EXPANDED_SOURCE, LOADED}
use Rattle.plugin_messages.specs.declared.table.Shape.TheVariants as shape
use Rattle.plugin_messages.specs.Checked.{checked_as}
use Rattle.plugin_messages.specs.Taken.{text_if, flag_at}
use Rattle.plugin_messages.specs.Diagnostics.{diagnostics_of}
use Rattle.plugin_messages.specs.HostOf.{message_from, capability_of}

unfoldable pub reply_of : Data → PluginMessage
reply_of d = plugin.Result (text_if EXPANDED_SOURCE.now d) (diagnostics_of d)

unfoldable pub loading_of : Data → PluginMessage
loading_of d = plugin.Loaded (flag_at LOADED.now d) (diagnostics_of d)

unfoldable pub plugin_case : List ℕ → Data → Result PluginMessage Reason
plugin_case name d =
    if bytes_eq name GET_CAPABILITY_RESULT.now then checked_as shape.Greeting d (plugin.Capability (capability_of d))
    else (if bytes_eq name EXPAND_MACRO_RESULT.now then checked_as shape.Reply d (reply_of d)
    else (if bytes_eq name LOAD_PLUGIN_LIBRARY_RESULT.now then checked_as shape.Loading d (loading_of d)
    else Err UnknownCase))

unfoldable pub plugin_message_of : List ℕ → Result PluginMessage Reason
plugin_message_of = message_from plugin_case

-- the message that the payload spells, or the first reason
abbrev pub PluginOf : List ℕ → Result PluginMessage Reason → Type 0
PluginOf payload outcome = plugin_message_of payload ≡ outcome
