use Rattle.std.proofs.Common.{ap, ◌∙◌, ◌++◌}
use Rattle.swift_lexer.specs.Trees.{nest, forest_of}
use Rattle.swift_lexer.proofs.Trees.{tree_of-nest}
use Rattle.swift_lexer.proofs.grouping.group_of.Goals as goal

pub returns : goal.returns
returns c =
    tree_of-nest c.in_ok-group.group ∙ ap (λ group. nest group.left (forest_of group.inner.items) group.right) c.in_ok-group.ensures.ok ∙ ap (λ items. nest c.args.left (forest_of items) c.args.right) (c.in_ok-append.ensures.items ∙ ap (λ before. before ++ c.args.list.now.items) c.in_ok-inner.ensures.items)
