-- this project's own: what is written is read again as itself.
use Rattle.std.specs.Prelude.{◌^◌, ◌<◌, ℤ, pos, negsuc, Ok}
use Rattle.plugin_messages.specs.declared.request.Location.{Location}
use Rattle.plugin_messages.specs.declared.request.Syntax.{Syntax}
use Rattle.plugin_messages.specs.declared.request.Parts.{Parts}
use Rattle.plugin_messages.specs.declared.request.Parts.TheVariants.{Freestanding, Attached}
use Rattle.plugin_messages.specs.declared.message.HostMessage.{HostMessage}
use Rattle.plugin_messages.specs.declared.message.HostMessage.TheVariants.{GetCapability, Expand, LoadLibrary}
use Rattle.plugin_messages.specs.declared.message.PluginMessage.{PluginMessage}
use Rattle.plugin_messages.specs.declared.message.PluginMessage.TheVariants as plugin
use Rattle.plugin_messages.specs.Writable.{WhereSome, IsHostWritable, IsPluginWritable}
use Rattle.plugin_messages.specs.HostOf.{HostOf}
use Rattle.plugin_messages.specs.PluginOf.{PluginOf}
use Rattle.plugin_messages.specs.RequestBytes.{host_payload_of}
use Rattle.plugin_messages.specs.ReplyBytes.{plugin_payload_of}

-- the numbers of a message are in the ranges of its fields' types, as those of each value of the program are
pub record IsLocationInRange (location : Location) : Type 0 where
  pub offset : location.offset < 2 ^ 32
  pub line : location.line < 2 ^ 32
  pub column : location.column < 2 ^ 32

abbrev pub IsSyntaxInRange : Syntax → Type 0
IsSyntaxInRange syntax = WhereSome IsLocationInRange syntax.location

abbrev pub ArePartsInRange : Parts → Type 0
ArePartsInRange (Freestanding syntax) = IsSyntaxInRange syntax
ArePartsInRange (Attached attribute decl parent extended conformances) =
    IsSyntaxInRange attribute × IsSyntaxInRange decl × WhereSome IsSyntaxInRange parent × WhereSome IsSyntaxInRange extended × WhereSome IsSyntaxInRange conformances

abbrev pub IsVersion : ℤ → Type 0
IsVersion (pos n) = n < 2 ^ 63
IsVersion (negsuc n) = n < 2 ^ 63

abbrev pub IsHostInRange : HostMessage → Type 0
IsHostInRange (GetCapability version) = IsVersion version
IsHostInRange (Expand target role discriminator parts) = ArePartsInRange parts
IsHostInRange (LoadLibrary path name) = Unit {0}

abbrev pub IsPluginInRange : PluginMessage → Type 0
IsPluginInRange (plugin.Capability version) = IsVersion version
IsPluginInRange (plugin.Result text diagnostics) = Unit {0}
IsPluginInRange (plugin.Loaded loaded diagnostics) = Unit {0}

abbrev pub HostReadsBack : Type 0
HostReadsBack = (message : HostMessage) → IsHostWritable message → IsHostInRange message → HostOf (host_payload_of message) (Ok message)

abbrev pub PluginReadsBack : Type 0
PluginReadsBack = (message : PluginMessage) → IsPluginWritable message → IsPluginInRange message → PluginOf (plugin_payload_of message) (Ok message)
