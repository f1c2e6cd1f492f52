-- this project's own: messages that can be written and read again. Their texts are UTF-8, and offsets of positions are below 2 ^ 63.
use Rattle.std.specs.Prelude.{◌^◌, ◌<◌, Option, Some, None}
use Rattle.std.specs.Str.{IsUtf8}
use Rattle.std.specs.List.{All}
use Rattle.plugin_messages.specs.declared.request.Location.{Location}
use Rattle.plugin_messages.specs.declared.request.Syntax.{Syntax}
use Rattle.plugin_messages.specs.declared.request.MacroRef.{MacroRef}
use Rattle.plugin_messages.specs.declared.request.Parts.{Parts}
use Rattle.plugin_messages.specs.declared.request.Parts.TheVariants.{Freestanding, Attached}
use Rattle.plugin_messages.specs.declared.request.Request.{Request}
use Rattle.plugin_messages.specs.declared.message.HostMessage.{HostMessage}
use Rattle.plugin_messages.specs.declared.message.HostMessage.TheVariants.{GetCapability, Expand, LoadLibrary}
use Rattle.plugin_messages.specs.declared.message.PluginMessage.{PluginMessage}
use Rattle.plugin_messages.specs.declared.message.PluginMessage.TheVariants as plugin
use Rattle.plugin_messages.specs.declared.message.Diagnostic.{Diagnostic}
use Rattle.plugin_messages.specs.declared.message.Note.{Note}

abbrev pub WhereSome : {A : Type 0} → (A → Type 0) → Option A → Type 0
WhereSome P None = Unit {0}
WhereSome P (Some x) = P x

pub record IsLocationWritable (location : Location) : Type 0 where
  pub file_id : IsUtf8 location.file_id
  pub file_name : IsUtf8 location.file_name

pub record IsSyntaxWritable (syntax : Syntax) : Type 0 where
  pub source : IsUtf8 syntax.source
  pub location : WhereSome IsLocationWritable syntax.location

pub record IsMacroWritable (target : MacroRef) : Type 0 where
  pub module_name : IsUtf8 target.module
  pub type_name : IsUtf8 target.type_name
  pub name : IsUtf8 target.name

pub record AreAttachedWritable (attribute decl : Syntax) (parent extended conformances : Option Syntax) : Type 0 where
  pub attribute_part : IsSyntaxWritable attribute
  pub decl_part : IsSyntaxWritable decl
  pub parent_part : WhereSome IsSyntaxWritable parent
  pub extended_part : WhereSome IsSyntaxWritable extended
  pub conformances_part : WhereSome IsSyntaxWritable conformances

abbrev pub ArePartsWritable : Parts → Type 0
ArePartsWritable (Freestanding syntax) = IsSyntaxWritable syntax
ArePartsWritable (Attached attribute decl parent extended conformances) = AreAttachedWritable attribute decl parent extended conformances

abbrev pub IsHostWritable : HostMessage → Type 0
IsHostWritable (GetCapability version) = Unit {0}
IsHostWritable (Expand target role discriminator parts) = IsMacroWritable target × IsUtf8 discriminator × ArePartsWritable parts
IsHostWritable (LoadLibrary path name) = IsUtf8 path × IsUtf8 name

pub record IsRequestWritable (request : Request) : Type 0 where
  pub target : IsMacroWritable request.target
  pub parts : ArePartsWritable request.parts

pub record IsNoteWritable (note : Note) : Type 0 where
  pub message : IsUtf8 note.message
  pub file_name : IsUtf8 note.file_name
  pub offset : note.offset < 2 ^ 63

pub record IsDiagnosticWritable (diagnostic : Diagnostic) : Type 0 where
  pub message : IsUtf8 diagnostic.message
  pub file_name : IsUtf8 diagnostic.file_name
  pub offset : diagnostic.offset < 2 ^ 63
  pub notes : All IsNoteWritable diagnostic.notes

abbrev pub IsPluginWritable : PluginMessage → Type 0
IsPluginWritable (plugin.Capability version) = Unit {0}
IsPluginWritable (plugin.Result text diagnostics) = WhereSome IsUtf8 text × All IsDiagnosticWritable diagnostics
IsPluginWritable (plugin.Loaded loaded diagnostics) = All IsDiagnosticWritable diagnostics
