use Rattle.swift_lexer.specs.Trees.{tree_of}
use Rattle.std.proofs.Common.{◌∙◌}
use Rattle.element_marks.proofs.Quieter.{name_is}
use Rattle.element_marks.proofs.quiet.name_at.Goals as goal

pub returns : goal.returns
returns c = λ text is. c.name_between.ensures ∙ name_is text (tree_of c.args.element.now) c.front.result c.end_at.result c.args.sort c.front.ensures (c.end_at.ensures text) is
