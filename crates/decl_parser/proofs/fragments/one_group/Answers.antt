use Rattle.std.proofs.Common.{◌∙◌, ap, sym}
use Rattle.swift_lexer.specs.Trees.{forest_of}
use Rattle.decl_parser.specs.Fragments.{one_group}
use Rattle.decl_parser.proofs.Grouped.{one_group_more}
use Rattle.decl_parser.proofs.fragments.one_group.Goals as goal

pub returns-then-not-is_empty : goal.returns-then-not-is_empty
returns-then-not-is_empty c =
    sym (ap (λ es. one_group (forest_of es)) c.in_ok-first.ensures.cases.0 ∙ one_group_more c.in_ok-first.first.now c.in_ok-first.others.now c.if-not-is_empty.ensures)
