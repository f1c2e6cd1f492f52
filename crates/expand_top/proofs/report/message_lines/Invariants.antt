use Rattle.std.proofs.Common.{◌≡◌, ◌++◌, drop}
use Rattle.std.specs.List.{flat_map}
use Rattle.expand_top.specs.Answers.{message_line}
use Rattle.expand_top.proofs.report.message_lines.Given as goal

abbrev pub invariant-messages : goal.invariant-messages
invariant-messages l = l.lines.items ++ flat_map message_line (drop l.message-index l.messages) ≡ flat_map message_line l.messages
