use Rattle.std.proofs.Common.{◌≡◌, Ok, length, ap, subst, ◌∙◌}
use Rattle.std.specs.Str.{chars}
use Rattle.swift_lexer.specs.Tokens.{after_mark, IsLexedFrom, well_formed}
use Rattle.swift_lexer.specs.Trees.{forest_of, forest_tokens}
use Rattle.swift_lexer.proofs.Underway.{if_some_weaker}
use Rattle.swift_lexer.proofs.reading.read_elements.Goals as goal

pub returns : goal.returns
returns c =
    let utf8 = c.in-Ok.ensures.cases in
    let text = c.args.text.now in
    let rest : chars c.after_mark.result.now ≡ after_mark (chars text) = c.after_mark.ensures ∙ ap (λ l. after_mark (chars l)) utf8.0 in
    if_some_weaker c.read_from.result (λ elements read. record {
      lexed = well_formed utf8.1 (subst (λ l. IsLexedFrom (length text) 0 l (Ok (forest_tokens (forest_of elements.items)))) rest read.lexed);
      grouped = read.grouped;
    }) c.read_from.ensures
