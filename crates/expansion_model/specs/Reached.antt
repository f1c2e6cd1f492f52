-- The buffers that the visit of a source reaches, and what is asked in them, by rules. This project's own.
use Rattle.std.specs.Prelude.{◌≡◌, ℕ, Some, Ok, List, []}
use Rattle.std.specs.List.{Contains}
use Rattle.swift_base.specs.declared.plugins.Plugin.{Plugin}
use Rattle.swift_tree.specs.Outlines.{OutlineSeen}
use Rattle.plugin_messages.specs.declared.message.Outcome.TheVariants.{Reply}
use Rattle.plugin_messages.specs.declared.request.Request.{Request}
use Rattle.macro_decls.specs.declared.table.MacroDecl.{MacroDecl}
use Rattle.result_reader.specs.Reading.{reading_of}
use Rattle.expansion_model.specs.Buffers.{BufferSeen, key_of, reply_buffer}
use Rattle.expansion_model.specs.BufferSites.{buffer_sites}
use Rattle.expansion_model.specs.Requests.{request_of}
use Rattle.expansion_model.specs.Table.{Look}
use Rattle.expansion_model.specs.Visit.{reading_for}
use Rattle.expansion_model.specs.declared.site.Ask.{Ask}
use Rattle.expansion_model.specs.declared.site.Site.TheVariants.{Asks}

-- A source is reached, and so is the buffer of each reply that is read, to a use that is asked in a buffer that is reached.
pub data IsReached (macros : List MacroDecl) (plugins : List Plugin) (table : Look) (source : BufferSeen) : BufferSeen → Type 0 where
  begins : IsReached macros plugins table source source
  replied : (buffer : BufferSeen) (ask : Ask) (reply : List ℕ) (outline : OutlineSeen) → IsReached macros plugins table source buffer
      → Contains (buffer_sites macros plugins buffer) (Asks ask) → table (key_of buffer.key ask) ≡ Some (Reply (Some reply) [])
      → reading_of (reading_for macros buffer ask) reply ≡ Ok outline → IsReached macros plugins table source (reply_buffer buffer ask outline)

-- the request of a use in a buffer that is reached
pub record IsAsked (macros : List MacroDecl) (plugins : List Plugin) (table : Look) (source : BufferSeen) (request : Request) : Type 0 where
  pub buffer : BufferSeen
  pub reached : IsReached macros plugins table source buffer
  pub ask : Ask
  pub stands : Contains (buffer_sites macros plugins buffer) (Asks ask)
  pub is : request ≡ request_of buffer ask
