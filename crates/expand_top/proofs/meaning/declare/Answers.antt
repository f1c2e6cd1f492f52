use Rattle.std.proofs.Common.{ap, map, ◌∙◌}
use Rattle.swift_tree.specs.Outlines.{outline_of}
use Rattle.macro_decls.specs.Macros.{macros}
use Rattle.expand_top.specs.Meaning.{Refused, by_table}
use Rattle.expand_top.proofs.meaning.declare.Goals as goal

pub returns-in-Ok-clause-meaning : goal.returns-in-Ok-clause-meaning
returns-in-Ok-clause-meaning c = λ source.
    ap (by_table _ source) (c.in-Ok.ensures.macros ∙ ap macros (ap (map (λ o. outline_of o.now)) c.deref.ensures.value ∙ c.in_ok-list.ensures))

pub returns-clause-meaning : goal.returns-clause-meaning
returns-clause-meaning c = λ source.
    ap Refused c.in_ok-output-in-Err-Fault.ensures ∙ ap (by_table _ source) ((rw c.in-Err-Fault.field-0-is at c.in-Err-Fault.ensures).macros ∙ ap macros (ap (map (λ o. outline_of o.now)) c.deref.ensures.value ∙ c.in_ok-list.ensures))
