use Rattle.std.proofs.Common.{◌∙◌, sym, subst, length}
use Rattle.swift_lexer.specs.Trees.{forest_of}
use Rattle.decl_parser.specs.Cut.{without}
use Rattle.decl_parser.specs.Insides.{IsBlankList}
use Rattle.decl_parser.specs.Levels.{insides}
use Rattle.decl_parser.proofs.QuietGroups.{length_insides, silent_insides}
use Rattle.decl_parser.proofs.levels.are_blank.Goals as goal

pub returns-in-None : goal.returns-in-None
returns-in-None c = λ is.
    let text = c.args.text.now in
    let elements = c.args.elements.now in
    subst (λ p. IsBlankList (length elements) (without p (insides text (forest_of elements)))) (sym c.in-None.is)
    (silent_insides text (forest_of elements) (sym c.are_silent.ensures ∙ is), length_insides text elements)
