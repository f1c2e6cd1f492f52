-- A run that is under way. This project's own.
use Rattle.std.specs.Prelude.{◌≡◌, ◌<◌, None, List, All, map}
use Rattle.swift_base.specs.Outside.{StarterSeen}
use Rattle.swift_base.specs.declared.plugins.Plugin.{Plugin}
use Rattle.plugin_messages.specs.declared.request.Request.{Request}
use Rattle.macro_decls.specs.declared.table.MacroDecl.{MacroDecl}
use Rattle.expansion_model.specs.Buffers.{BufferSeen}
use Rattle.expansion_model.specs.Visit.{visit}
use Rattle.link_driver.specs.Driven.{DriverSeen, IsDriven, IsSpent, bytes_of}
use Rattle.link_driver.specs.declared.link.TheConstants.{MOST_BYTES}
use Rattle.link_driver.specs.Requests.{Wanted, key_of}
use Rattle.link_driver.specs.Told.{HasTable}
use Rattle.expansion_model.specs.Answer.{answer_of}
use Rattle.expansion_model.specs.declared.answer.Answer.{Answer}
use Rattle.expansion_model.specs.declared.answer.Answer.TheVariants as ends
use Rattle.expansion_model.specs.declared.answer.LimitKind.TheVariants as limits
use Rattle.link_driver.specs.LinkTable.{Look, IsRunTable}
use Rattle.expand_top.specs.Asking.{Asking, AreDifferent, IsAskedOf, IsOneOf}

-- what is asked for a source with a table
abbrev pub asked_with : List MacroDecl → List Plugin → BufferSeen → Look → List Request
asked_with macros plugins source table = (visit macros plugins table source).asked

-- What was done so far: requests that the table so far asks, each once, and the outcomes are the table's.
pub record IsUnderWay (macros : List MacroDecl) (plugins : List Plugin) (source : BufferSeen) (before : StarterSeen) (driver : DriverSeen) (table : Look) (after : StarterSeen) : Type 0 where
  pub wanted : List Wanted
  pub driven : IsDriven wanted before driver after
  pub tells : HasTable table driver
  pub each : All (IsOneOf plugins (asked_with macros plugins source table)) wanted
  pub different : AreDifferent (map key_of wanted)

-- a request has an outcome, unless the processes gave more than is read
abbrev pub IsDecided : Look → DriverSeen → Request → Type 0
IsDecided table driver request = table request.key ≡ None → IsSpent driver

-- Requests were asked of a driver: the table has what is told, and each of the requests is decided. A driver that was
-- spent still is.
pub record HasAsked (requests : List Request) (driver : DriverSeen) (table : Look) (next : DriverSeen) : Type 0 where
  pub tells : HasTable table next
  pub stays_spent : IsSpent driver → IsSpent next
  pub each : All (IsDecided table next) requests

-- What was asked for a source, and the answer by its table.
pub record IsAnswered (macros : List MacroDecl) (plugins : List Plugin) (source : BufferSeen) (asking : Asking) (answer : Answer) : Type 0 where
  pub table : Look
  pub is_table : IsRunTable table asking.links asking.unstarted
  pub asks : IsAskedOf plugins (asked_with macros plugins source table) asking
  pub answers : answer ≡ answer_of macros plugins table source
  pub spent : answer ≡ ends.Limit limits.Bytes → MOST_BYTES < bytes_of asking.links
