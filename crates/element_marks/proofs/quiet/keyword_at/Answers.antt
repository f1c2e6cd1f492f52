use Rattle.std.proofs.Common.{◌∙◌, ap}
use Rattle.swift_lexer.specs.Trees.{tree_of}
use Rattle.swift_lexer.specs.Tiles.{bytes_of}
use Rattle.element_marks.specs.Marks.{leaf_keyword}
use Rattle.element_marks.proofs.Quieter.{keyword_is}
use Rattle.element_marks.proofs.quiet.keyword_at.Goals as goal

pub returns : goal.returns
returns c = c.leaf_keyword.ensures ∙ ap (leaf_keyword c.front-token.result.class) c.part.ensures.bytes ∙ ap (λ t. leaf_keyword t.class (bytes_of c.args.text.now t)) c.front-token.ensures ∙ keyword_is c.args.text.now (tree_of c.args.element.now)
