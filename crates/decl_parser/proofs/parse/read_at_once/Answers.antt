use Rattle.swift_lexer.specs.Trees.{forest_of}
use Rattle.swift_lexer.proofs.Underway.{if_some_weaker}
use Rattle.decl_parser.proofs.Readings.{elements_read}
use Rattle.decl_parser.proofs.parse.read_at_once.Goals as goal

pub returns-clause-elements : goal.returns-clause-elements
returns-clause-elements c =
    if_some_weaker c.read_elements.result (λ elements read. elements_read c.args.text.now (forest_of elements.items) c.if-text-gt-LONGEST_SOURCE.false read) c.read_elements.ensures
