use Rattle.std.proofs.Common.{◌++◌, ap, sym, ◌∙◌}
use Rattle.std.specs.Char.{encode_utf8}
use Rattle.std.proofs.lemmas.Str.{chars_past_char}
use Rattle.swift_lexer.proofs.texts.first.Goals as goal

pub returns-clause-split : goal.returns-clause-split
returns-clause-split c =
    chars_past_char c.args.text.now c.as_str.result.now c.in_ok-c.c c.utf8.text
    (sym c.chars-chars.ensures.rest ∙ c.in_ok-c.ensures.steps.0 ∙ ap (λ l. encode_utf8 c.in_ok-c.c ++ l) (sym c.as_str.ensures))
