use Rattle.std.proofs.Common.{◌∙◌, ap}
use Rattle.swift_lexer.specs.Trees.{tree_of}
use Rattle.swift_lexer.specs.Tiles.{bytes_of}
use Rattle.element_marks.specs.Marks.{leaf_sort}
use Rattle.element_marks.proofs.Quieter.{sort_is}
use Rattle.element_marks.proofs.quiet.sort_of.Goals as goal

pub returns : goal.returns
returns c = c.leaf_sort.ensures ∙ ap (leaf_sort c.front-token.result.class) c.part.ensures.bytes ∙ ap (λ t. leaf_sort t.class (bytes_of c.args.text.now t)) c.front-token.ensures ∙ sort_is c.args.text.now (tree_of c.args.element.now)
