-- What is wanted, and which bytes a process is given for it. Frames after swift-syntax's
-- SwiftCompilerPluginMessageHandling; the rest is this project's own.
use Rattle.std.specs.Prelude.{ℕ, ◌++◌, Bool, true, false, List, [], ◌∷◌}
use Rattle.std.specs.List.{flat_map}
use Rattle.plugin_frames.specs.Frames.{frame_of}
use Rattle.plugin_messages.specs.RequestBytes.{greeting, host_of, host_payload_of}
use Rattle.plugin_messages.specs.declared.request.Request.{Request}
use Rattle.link_driver.specs.Links.{KeySteps}

-- A request, and the command of the plug-in that serves it.
pub record Wanted : Type 0 where
  pub command : List ℕ
  pub request : Request

abbrev pub wanted_of : List ℕ → Request → Wanted
wanted_of command request = record { command = command; request = request }

abbrev pub key_of : Wanted → KeySteps
key_of wanted = wanted.request.key

abbrev pub module_of : Wanted → List ℕ
module_of wanted = wanted.request.target.module

unfoldable pub greeting_frame : List ℕ
greeting_frame = frame_of (host_payload_of greeting)

unfoldable pub request_frame : Request → List ℕ
request_frame request = frame_of (host_payload_of (host_of request))

-- what one write gives for a request: the greeting stands before the first of a process
abbrev pub bytes_for : Bool → Request → List ℕ
bytes_for true request = greeting_frame ++ request_frame request
bytes_for false request = request_frame request

-- the same, of a process that was asked these requests before
abbrev pub write_for : List Wanted → Request → List ℕ
write_for [] request = bytes_for true request
write_for (first ∷ more) request = bytes_for false request

-- all that the writes for these requests give: the greeting's frame and then theirs, in order
abbrev pub sent_for : List Wanted → List ℕ
sent_for [] = []
sent_for (first ∷ more) = greeting_frame ++ flat_map (λ wanted. request_frame wanted.request) (first ∷ more)

-- the command of the first of some requests
abbrev pub first_command : List Wanted → Wanted → List ℕ
first_command [] last = last.command
first_command (first ∷ more) last = first.command
