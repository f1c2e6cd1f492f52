use Rattle.std.proofs.Common.{ap, ◌∙◌, arith}
use Rattle.plugin_frames.specs.Frames.{header_of, spelled}
use Rattle.plugin_frames.proofs.Beginnings.{spelled-header_of}
use Rattle.plugin_frames.proofs.heading.header.Goals as goal

pub returns-clause-spells : goal.returns-clause-spells
unfolding header_of
returns-clause-spells c = ap spelled c.to_le_bytes.ensures ∙ spelled-header_of c.args.len (omega arith)
