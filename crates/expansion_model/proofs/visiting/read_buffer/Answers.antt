use Rattle.std.proofs.Common.{sym, subst, arith}
use Rattle.swift_tree.specs.Outlines.{outline_of}
use Rattle.expansion_model.specs.Buffers.{BufferSeen, IsSound, buffer_seen}
use Rattle.expansion_model.proofs.Accepted.{sound_is_short}
use Rattle.expansion_model.proofs.Replies.{reply_is_sound}
use Rattle.expansion_model.proofs.visiting.read_buffer.Goals as goal

pub returns-clause-sound : goal.returns-clause-sound
returns-clause-sound c =
    subst (λ (b : BufferSeen). IsSound b) (sym c.in_ok-inner.ensures) (reply_is_sound c.args.macros.now (buffer_seen c.args.buffer.now) c.args.ask.now c.args.reply.now (outline_of c.args.outline) c.requires)

pub returns-clause-short : goal.returns-clause-short
returns-clause-short c =
    omega (
      arith,
      sound_is_short (buffer_seen c.in_ok-inner.inner)
          (subst (λ (b : BufferSeen). IsSound b) (sym c.in_ok-inner.ensures) (reply_is_sound c.args.macros.now (buffer_seen c.args.buffer.now) c.args.ask.now c.args.reply.now (outline_of c.args.outline) c.requires)),
    )
