use Rattle.std.proofs.Common.{◌-◌, length, ap, sym, ◌∙◌}
use Rattle.std.proofs.lemmas.Str.{encodes-chars}
use Rattle.swift_lexer.specs.Tokens.{place}
use Rattle.swift_lexer.proofs.strings.place.Goals as goal

pub returns : goal.returns
unfolding place
returns c = c.saturating_sub.ensures ∙ ap (λ l. c.args.total - length l) (sym (encodes-chars c.args.rest.now c.utf8.rest))
