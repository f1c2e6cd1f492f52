use Rattle.std.proofs.Common.{◌∙◌, ap, sym, arith, take}
use Rattle.decl_parser.specs.Cut.{without}
use Rattle.swift_lexer.specs.Trees.{forest_of}
use Rattle.decl_parser.specs.Levels.{insides}
use Rattle.decl_parser.proofs.QuietGroups.{blank_list}
use Rattle.decl_parser.proofs.levels.listed_insides.Goals as goal

pub returns-then-are_blank : goal.returns-then-are_blank
returns-then-are_blank c =
    let outside = without c.args.place (insides c.args.text.now (forest_of c.args.elements.now)) in
    let blank = c.are_blank.ensures c.if-are_blank.true in
    ap (λ n. take n c.args.blanks.now) (sym blank.1) ∙ blank_list outside c.args.blanks.now blank.0 c.requires (omega (arith, blank.1, c.if-elements-blanks.true))
