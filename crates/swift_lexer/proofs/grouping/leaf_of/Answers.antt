use Rattle.swift_lexer.proofs.Trees.{tree_of-leaf}
use Rattle.swift_lexer.proofs.grouping.leaf_of.Goals as goal

pub returns : goal.returns
returns c = tree_of-leaf c.args.token
