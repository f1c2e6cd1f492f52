-- What the code keeps of a visit: of the requests, the role of each, and those without an outcome. This project's own.
use Rattle.std.specs.Prelude.{List, [], ◌∷◌, ◌++◌, filter, map}
use Rattle.unique_names.specs.declared.role.Role.{Role}
use Rattle.plugin_messages.specs.declared.request.Request.{Request}
use Rattle.result_splice.specs.declared.edit.Edit.{Edit}
use Rattle.expansion_model.specs.Table.{Look, is_missing}
use Rattle.expansion_model.specs.Visit.{Found}
use Rattle.expansion_model.specs.declared.message.Message.{Message}
use Rattle.expansion_model.specs.declared.visited.Visited as code

pub record VisitedSeen : Type 0 where
  pub asked : List Role
  pub missing : List Request
  pub messages : List Message
  pub edits : List Edit

unfoldable pub visited_of : Look → Found → VisitedSeen
visited_of table found = record {
  asked = map (λ request. request.role) found.asked;
  missing = filter (is_missing table) found.asked;
  messages = found.messages;
  edits = found.edits;
}

-- what was kept, and then more
unfoldable pub with_more : VisitedSeen → VisitedSeen → VisitedSeen
with_more one other = record {
  asked = one.asked ++ other.asked;
  missing = one.missing ++ other.missing;
  messages = one.messages ++ other.messages;
  edits = one.edits ++ other.edits;
}

abbrev pub a_message : Message → VisitedSeen
a_message message = record { asked = []; missing = []; messages = message ∷ []; edits = [] }

abbrev pub an_edit : Edit → VisitedSeen
an_edit edit = record { asked = []; missing = []; messages = []; edits = edit ∷ [] }

-- a request that has an outcome
abbrev pub a_request : Role → VisitedSeen
a_request role = record { asked = role ∷ []; missing = []; messages = []; edits = [] }

-- a request that has none
abbrev pub a_missing : Request → VisitedSeen
a_missing request = record { asked = request.role ∷ []; missing = request ∷ []; messages = []; edits = [] }

abbrev pub visited_seen : code.Visited → VisitedSeen
visited_seen visited = record { asked = visited.asked.items; missing = visited.missing.items; messages = visited.messages.items; edits = visited.edits.items }
