use Rattle.std.proofs.Common.{sym, ◌∙◌, subst}
use Rattle.std.specs.Str.{IsUtf8}
use Rattle.std.specs.List.{All}
use Rattle.std.proofs.lemmas.List.Elements.{All-nil}
use Rattle.plugin_messages.specs.Writable.{IsDiagnosticWritable}
use Rattle.sample_macros.proofs.replies.text_reply.Goals as goal

pub returns-clause-writable : goal.returns-clause-writable
returns-clause-writable c = λ utf8. (
  subst IsUtf8 (sym c.from_vec.ensures) utf8,
  subst (All IsDiagnosticWritable) (sym (c.from_vec-diagnostics.ensures ∙ c.new.ensures.items)) (All-nil IsDiagnosticWritable),
)
