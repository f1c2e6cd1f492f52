-- Replies without a text, and with one error. This project's own.
use Rattle.std.specs.Prelude.{ℕ, List, [], ◌∷◌, ◌++◌, Option, Some, None, codes}
use Rattle.plugin_messages.specs.declared.request.Location.{Location}
use Rattle.plugin_messages.specs.declared.request.MacroRef.{MacroRef}
use Rattle.plugin_messages.specs.declared.request.Parts.{Parts}
use Rattle.plugin_messages.specs.declared.request.Parts.TheVariants.{Freestanding, Attached}
use Rattle.plugin_messages.specs.declared.message.Diagnostic.{Diagnostic}
use Rattle.plugin_messages.specs.declared.message.Severity.TheVariants.{Error}
use Rattle.plugin_messages.specs.declared.message.HostMessage.{HostMessage}
use Rattle.plugin_messages.specs.declared.message.HostMessage.TheVariants.{GetCapability, Expand, LoadLibrary}
use Rattle.plugin_messages.specs.declared.message.PluginMessage.{PluginMessage}
use Rattle.plugin_messages.specs.declared.message.PluginMessage.TheVariants as plugin

-- the location of what is expanded: the use, or the declaration with the attribute
abbrev pub location_of : Parts → Option Location
location_of (Freestanding syntax) = syntax.location
location_of (Attached attribute decl parent extended conformances) = decl.location

abbrev pub asked_location : HostMessage → Option Location
asked_location (GetCapability version) = None
asked_location (Expand target role discriminator parts) = location_of parts
asked_location (LoadLibrary path name) = None

-- an error there; without a location its file has no name, and its offset is 0
abbrev pub error_at : Option Location → List ℕ → Diagnostic
error_at None message = record { message = message; severity = Error; file_name = []; offset = 0; notes = [] }
error_at (Some location) message = record { message = message; severity = Error; file_name = location.file_name; offset = location.offset; notes = [] }

-- no text, and one error at what is expanded
unfoldable pub refusal_of : HostMessage → List ℕ → PluginMessage
refusal_of asked message = plugin.Result None (error_at (asked_location asked) message ∷ [])

-- the message for a macro that isn't there
unfoldable pub no_macro_text : MacroRef → List ℕ
no_macro_text target = codes "no macro " ++ target.module ++ codes "." ++ target.type_name ++ codes " in this plug-in"
