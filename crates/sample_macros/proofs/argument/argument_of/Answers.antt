use Rattle.std.proofs.Common.{Some, List, ap, ◌∙◌}
use Rattle.swift_lexer.specs.declared.element.Element.{Element}
use Rattle.swift_lexer.specs.Trees.{forest_of}
use Rattle.sample_macros.specs.Use.{argument_in}
use Rattle.sample_macros.proofs.Arguments.{argument_utf8}
use Rattle.sample_macros.proofs.argument.argument_of.Goals as goal

pub returns-in-Some-argument_in-clause-utf8 : goal.returns-in-Some-argument_in-clause-utf8
returns-in-Some-argument_in-clause-utf8 c = λ utf8.
    argument_utf8 c.groups_hold_the_tokens.ensures c.tokens_are_of_characters.ensures c.args.source.now (Some c.in_ok-from_slice-in-Some-argument_in.field-0.items) utf8
    (record {
      elements = Some (forest_of c.in-Some.elements.items);
      has = rw c.in-Some.is at c.in_ok-elements.ensures;
      is = ap Some c.in_ok-from_slice-in-Some-argument_in.ensures.items ∙ c.in-Some-argument_in.ensures
          ∙ ap (λ (row : List Element). argument_in c.args.source.now (forest_of row)) c.deref.ensures.value;
    })
